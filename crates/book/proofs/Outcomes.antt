-- What a call's tests answered, and what the call then leaves. Assumes nothing.
use Rattle.std.proofs.Common.{◌≡◌, ℕ, not, ◌||◌, List, [], ◌∷◌, Ok, Err, Option, Result, eqb, ap, ◌∙◌, refl, sym}
use Rattle.std.specs.List.{list_any}
use Rattle.std.specs.Result.{IsErrAnd}
use Rattle.tariff.specs.declared.refusal.Refusal.{Refusal}
use Rattle.tariff.specs.Refusals.{answer}
use Rattle.tariff.proofs.Refused.{ok_tells, err_tells}
use Rattle.book_rules.specs.Machine.{outstanding}
use Rattle.book_rules.specs.Run.{State, Answer, Outcome, refused, outcome}
use Rattle.book.specs.Told.{told_row}

made : State → Answer → Outcome
made s a = record { state = s; answer = a }

pub same_error : {T E : Type 0} (r : Result T E) (e : E) → IsErrAnd r (λ d. d ≡ e) → r ≡ Err e
same_error (Ok x) e h = absurd h
same_error (Err d) e h = ap Err h

module _ {X : Type 0} (o : Option Refusal) (x : X) (old : State) where
  pub outcome_refused : (e : Refusal) (new : State) (a : Answer) → Err e ≡ answer o x → outcome o old new a ≡ record { state = old; answer = refused e }
  outcome_refused e new a h = ap (λ (k : Option Refusal). outcome k old new a) (err_tells o e x h)

  -- where the code answers that refusal by `?`
  pub refused_row : (new : State) (a : Answer) (e : Refusal) (r : Result ℕ Refusal) → Err e ≡ answer o x → IsErrAnd r (λ d. d ≡ e) → outcome o old new a ≡ record { state = old; answer = told_row r }
  unfolding made
  refused_row new a e r h same = outcome_refused e new a h ∙ ap (λ (k : Result ℕ Refusal). made old (told_row k)) (sym (same_error r e same))

  -- the new state and the answer, by what the tests answered
  pub outcome_accepted : (y : X) (new : X → State) (a : X → Answer) → Ok y ≡ answer o x → outcome o old (new x) (a x) ≡ record { state = new y; answer = a y }
  unfolding made
  outcome_accepted y new a h =
      let t = ok_tells o y x h in
      ap (λ (k : Option Refusal). outcome k old (new x) (a x)) t.0
      ∙ ap (λ (k : X). made (new k) (a k)) (sym t.1)

pub outstanding_is : (marks : List ℕ) → list_any (λ m. not (eqb m 0)) marks ≡ outstanding marks
outstanding_is [] = refl
outstanding_is (m ∷ marks) = ap (λ b. not (eqb m 0) || b) (outstanding_is marks)
