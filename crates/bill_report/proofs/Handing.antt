-- A refusal that a `?` hands on. Assumes nothing.
use Rattle.std.proofs.Common.{◌≡◌, Ok, Err, Result, sym, subst}
use Rattle.std.specs.Result.{IsErrAnd}
use Rattle.tariff.specs.declared.refusal.Refusal.{Refusal}
use Rattle.bill_report.specs.declared.error.BillError.{BillError}
use Rattle.bill_report.specs.declared.error.BillError.TheVariants.{Refused}
use Rattle.bill_report.specs.Failing.{UnlessOutOfMemory}

pub refused : {A : Type 0} (P : Result A Refusal → Type 0) (r : Result A BillError) (e : Refusal) → IsErrAnd r (λ x. x ≡ Refused e) → P (Err e) → UnlessOutOfMemory r P
refused P (Ok a) e h p = absurd h
refused P (Err x) e h p = subst (λ y. UnlessOutOfMemory (Err y) P) (sym h) p
