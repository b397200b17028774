-- A statement in a buffer of the most bytes.
use Rattle.std.proofs.Common.{◌≡◌, ℕ, ◌+◌, ◌≤◌, false, ltb, List, length, take, None, Ok, Option, Result, sym, refl, ap, ◌∙◌, subst, zero-add, arith}
use Rattle.std.proofs.lemmas.Bool.{le-ltb}
use Rattle.tariff.specs.declared.refusal.Refusal.{Refusal}
use Rattle.std.specs.Result.{IsOk}
use Rattle.tariff.specs.Refusals.{answer, unless}
use Rattle.tariff.proofs.Refused.{ok_tells}
use Rattle.buffer.specs.Putting.{pasted, put_refusal}
use Rattle.buffer.proofs.Pasting.{take_pasted}
use Rattle.statement_report.specs.Statement.{most_bytes, Told, statement_of, told}
use Rattle.statement_report.specs.declared.Statement.{Statement}

module _ (file out : List ℕ) (room : length out ≡ most_bytes) (short : length (statement_of file).1 ≤ most_bytes) where
  none : put_refusal (length out) 0 (statement_of file).1 ≡ None
  none = let fits : ltb (length out) (0 + length (statement_of file).1) ≡ false = le-ltb (length out) (0 + length (statement_of file).1) (omega arith) in rw fits refl

  pub always_made : (r : Result Statement Refusal) → r ≡ answer (put_refusal (length out) 0 (statement_of file).1) (told (statement_of file)) → IsOk r
  always_made r answers = subst IsOk (sym (answers ∙ ap (λ (o : Option Refusal). answer o (told (statement_of file))) none)) refl

  pub whole_text : (after : List ℕ) (s : Statement) → Ok s ≡ answer (put_refusal (length out) 0 (statement_of file).1) (told (statement_of file)) →
      after ≡ unless (put_refusal (length out) 0 (statement_of file).1) out (pasted out 0 (statement_of file).1) → ◌≡◌ {A = Told} (s.refusal, take s.length after) (statement_of file)
  whole_text after s ok left =
      let t : List ℕ = (statement_of file).1 in
      let is = (ok_tells (put_refusal (length out) 0 t) s (told (statement_of file)) ok).1 in
      let put : after ≡ pasted out 0 t = left ∙ ap (λ (o : Option Refusal). unless o out (pasted out 0 t)) none in
      let front : take (length t) (pasted out 0 t) ≡ t = ap (λ (k : ℕ). take k (pasted out 0 t)) (sym (zero-add (length t))) ∙ take_pasted out t 0 (omega arith) in
      let tell : Option Refusal → List ℕ → Told = λ a x. (a, x) in
      ap (λ (y : Statement). tell y.refusal (take y.length after)) is ∙ ap (λ (x : List ℕ). tell (statement_of file).0 (take (length t) x)) put ∙ ap (tell (statement_of file).0) front
