-- A call with a pass that is not valid changes nothing. Assumes nothing.
use Rattle.std.proofs.Common.{◌≡◌, ℕ, Bool, true, false, cond, not, List, Some, Option, sym, refl, ap, ◌∙◌}
use Rattle.std.proofs.lemmas.Bool.{false≢true}
use Rattle.tariff.specs.declared.refusal.Refusal.{Refusal}
use Rattle.tariff.specs.declared.refusal.Refusal.TheVariants.{TableUnfit, PassNotValid}
use Rattle.tariff.specs.declared.rows.UnitRow.{UnitRow}
use Rattle.tariff.specs.declared.rows.CostRow.{CostRow}
use Rattle.book_rules.specs.Machine.{Book, Pass, valid}
use Rattle.book_rules.specs.Run.{State, Answer, Outcome, outcome, step, opened, post, add_cost, correct}

refused_by_pass : (s new : State) (a : Answer) (b v : Bool) (rest : Option Refusal) → v ≡ false → (outcome (cond b (Some TableUnfit) (cond (not v) (Some PassNotValid) rest)) s new a).state ≡ s
refused_by_pass s new a true v rest e = refl
refused_by_pass s new a false true rest e = absurd (false≢true (sym e))
refused_by_pass s new a false false rest e = refl

-- from what a call's contract says of the state it leaves
module _ (b : Book) (us : List UnitRow) (cs : List CostRow) (ms : List ℕ) (p : Pass) (void : valid b ms p ≡ false) where
  pub correct_idle : (at q : ℕ) (o : Outcome) → step (opened b us cs ms) (correct p at q) ≡ o → o.state ≡ opened b us cs ms
  correct_idle at q o e = ap (λ (x : Outcome). x.state) (sym e) ∙ refused_by_pass _ _ _ _ _ _ void

  pub post_idle : (u : UnitRow) (o : Outcome) → step (opened b us cs ms) (post p u) ≡ o → o.state ≡ opened b us cs ms
  post_idle u o e = ap (λ (x : Outcome). x.state) (sym e) ∙ refused_by_pass _ _ _ _ _ _ void

  pub cost_idle : (r : CostRow) (o : Outcome) → step (opened b us cs ms) (add_cost p r) ≡ o → o.state ≡ opened b us cs ms
  cost_idle r o e = ap (λ (x : Outcome). x.state) (sym e) ∙ refused_by_pass _ _ _ _ _ _ void
