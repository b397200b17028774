-- From what the calls of a book say to the settled book. Assumes nothing.
use Rattle.std.proofs.Common.{◌≡◌, ℕ, ◌+◌, List, set, replicate, Some, None, Ok, Err, Option, Result, sym, refl, ap, ◌∙◌, arith}
use Rattle.std.specs.Result.{IsErrAnd, MatchResult}
use Rattle.tariff.specs.declared.refusal.Refusal.{Refusal}
use Rattle.tariff.specs.declared.rows.Sizes.{Sizes}
use Rattle.tariff.specs.declared.rows.UnitRow.{UnitRow}
use Rattle.tariff.specs.declared.rows.CostRow.{CostRow}
use Rattle.tariff.specs.Limits.{contributors}
use Rattle.tariff.specs.Refusals.{answer, unless}
use Rattle.tariff.proofs.Refused.{ok_tells}
use Rattle.book_rules.specs.Machine.{Book, Pass, new_pass, new_book, open_refusal, admit_refusal, with_last_pass}
use Rattle.book_rules.specs.Run.{State, Answer, gave, froze, stayed_open, refused, Outcome, outcome, with_marks, admit, hand_in, freeze, step, opened, closed, at_opening}
use Rattle.book.specs.declared.load.LoadReport.{LoadReport}
use Rattle.book.specs.Load.{report_refusal, refusal_in, load_of, Done}
use Rattle.book.specs.Shown.{open_book, frozen_book}
use Rattle.book.specs.Told.{told, frozen}
use Rattle.book.specs.declared.states.FrozenBook.{FrozenBook}
use Rattle.book.specs.declared.states.OpenBook.{OpenBook}
use Rattle.settling.specs.Settling.{Reached, goes_on, reached_by, handed_in, loaded_with, loaded_in, frozen_after, settled_at, opens_to, settlement, left, leaves}

gave_tells : (o : Option Refusal) (s new t : State) (q p : Pass) → outcome o s new (gave q) ≡ record { state = t; answer = gave p } → q ≡ p
gave_tells None s new t q p h = let a : ◌≡◌ {A = Answer} (gave q) (gave p) = ap (λ (o : Outcome). o.answer) h in cc
gave_tells (Some e) s new t q p h =
    let a : ◌≡◌ {A = Answer} (refused e) (gave p) = ap (λ (o : Outcome). o.answer) h in
    let z : ◌≡◌ {A = ℕ} 0 1 = cc in absurd (omega arith)

-- where an admit leads
admit_leads : State → List ℕ → Pass → Outcome → Reached
admit_leads s bytes p o = goes_on (refusal_in o.answer) o.state (loaded_with o.state p bytes)

module _ (b : Book) (us : List UnitRow) (cs : List CostRow) (ms bytes : List ℕ) where
  pub admitted : (t : State) (p : Pass) → step (opened b us cs ms) (admit 0) ≡ record { state = t; answer = gave p } → loaded_in (opened b us cs ms) bytes ≡ loaded_with t p bytes
  unfolding admit_leads
  admitted t p h =
      let s : State = opened b us cs ms in
      let m = b.last_pass + 1 in
      ap (admit_leads s bytes (new_pass b 0)) h
      ∙ ap (λ (q : Pass). loaded_with t q bytes) (gave_tells (admit_refusal b ms 0) s (with_marks s (with_last_pass b m) (set ms 0 m)) t (new_pass b 0) p h)

  pub not_admitted : (t : State) (e : Refusal) → step (opened b us cs ms) (admit 0) ≡ record { state = t; answer = refused e } → left (Err e) t ≡ loaded_in (opened b us cs ms) bytes
  unfolding admit_leads
  not_admitted t e h = sym (ap (admit_leads (opened b us cs ms) bytes (new_pass b 0)) h)

-- where a hand-in leads after a load
ends : Option Refusal → Outcome → Reached
ends None o = reached_by o
ends (Some e) o = record { refusal = Some e; state = o.state }

ends_is : (o : Option Refusal) (s : State) (p : Pass) → ends o (step s (hand_in p)) ≡ handed_in o s p
unfolding ends
ends_is None s p = refl
ends_is (Some e) s p = refl

module _ (t u v : State) (p : Pass) (bytes : List ℕ) (r : LoadReport) (x : Result (Unit {0}) Refusal) (done : Done t (load_of t p bytes) u r) (ended : step u (hand_in p) ≡ record { state = v; answer = told x }) where
  reaches : (o : Option Refusal) → report_refusal r ≡ o → ends o (step u (hand_in p)) ≡ loaded_with t p bytes
  reaches o h =
      ends_is o u p
      ∙ ap (λ (k : Option Refusal). handed_in k u p) (sym h ∙ ap report_refusal done.reports)
      ∙ ap (λ (w : State). handed_in (report_refusal (load_of t p bytes).report) w p) done.makes

  pub load_refused : (e : Refusal) → report_refusal r ≡ Some e → left (Err e) v ≡ loaded_with t p bytes
  unfolding ends
  load_refused e h = sym (ap (ends (Some e)) ended) ∙ reaches (Some e) h

  hand_in_leads : (y : Result (Unit {0}) Refusal) → step u (hand_in p) ≡ record { state = v; answer = told y } → left y v ≡ ends None (step u (hand_in p))
  unfolding ends
  hand_in_leads (Ok _) h = sym (ap (ends None) h)
  hand_in_leads (Err e) h = sym (ap (ends None) h)

  pub load_done : report_refusal r ≡ None → left x v ≡ loaded_with t p bytes
  load_done h = hand_in_leads x ended ∙ reaches None h

-- an accepted opening
module _ (z : Sizes) (us : List UnitRow) (cs : List CostRow) (ms ms' bytes : List ℕ) (b : Book) (ok : Ok b ≡ answer (open_refusal z ms) (new_book z 0)) (clear : ms' ≡ unless (open_refusal z ms) ms (replicate contributors 0)) where
  none : open_refusal z ms ≡ None
  none = (ok_tells (open_refusal z ms) b (new_book z 0) ok).0

  begun : opened b us cs ms' ≡ at_opening z 0 us cs
  begun =
      ap (λ (k : Book). opened k us cs ms') (ok_tells (open_refusal z ms) b (new_book z 0) ok).1
      ∙ ap (λ (k : List ℕ). opened (new_book z 0) us cs k) (clear ∙ ap (λ (o : Option Refusal). unless o ms (replicate contributors 0)) none)

  settles : (x : Reached) → x ≡ loaded_in (opened b us cs ms') bytes → settled_at (frozen_after x) ≡ settlement z us cs ms bytes
  settles x h =
      ap (λ (k : Reached). settled_at (frozen_after k)) (h ∙ ap (λ (s : State). loaded_in s bytes) begun)
      ∙ sym (ap (λ (o : Option Refusal). opens_to o us cs ms (frozen_after (loaded_in (at_opening z 0 us cs) bytes))) none)

  pub not_loaded : (s : State) (e : Refusal) → left (Err e) s ≡ loaded_in (opened b us cs ms') bytes → settled_at (left (Err e) s) ≡ settlement z us cs ms bytes
  not_loaded s e h = settles (left (Err e) s) h

  frozen_after_is : (s t : State) (k : Book) → left (Ok tt) s ≡ loaded_in (opened b us cs ms') bytes → step s freeze ≡ record { state = t; answer = froze k } → settled_at (left (Ok tt) t) ≡ settlement z us cs ms bytes
  frozen_after_is s t k h f = sym (ap (λ (o : Outcome). settled_at (reached_by o)) f) ∙ settles (left (Ok tt) s) h

  not_frozen : (s t : State) (k : Book) (e : Refusal) → left (Ok tt) s ≡ loaded_in (opened b us cs ms') bytes → step s freeze ≡ record { state = t; answer = stayed_open k e } → settled_at (left (Err e) t) ≡ settlement z us cs ms bytes
  not_frozen s t k e h f = sym (ap (λ (o : Outcome). settled_at (reached_by o)) f) ∙ settles (left (Ok tt) s) h

  told_error : (r : Result FrozenBook Refusal) (e : Refusal) (Q : Refusal → Type 0) → ((d : Refusal) → Q d → d ≡ e) → IsErrAnd r Q → r ≡ Err e
  told_error (Ok x) e Q says h = absurd h
  told_error (Err d) e Q says h = ap Err (says d h)

  -- where the code answers the freeze, or its refusal alone
  pub freeze_leaves : (k : Book) (units : List UnitRow) (costs : List CostRow) (marks : List ℕ) (f : Result FrozenBook (OpenBook × Refusal)) (r : Result FrozenBook Refusal) (Told : OpenBook × Refusal → Refusal → Type 0) →
      ((x : OpenBook × Refusal) (e : Refusal) → Told x e → e ≡ x.1) → MatchResult f (λ x. r ≡ Ok x) (λ x. IsErrAnd r (Told x)) → left (Ok tt) (opened k units costs marks) ≡ loaded_in (opened b us cs ms') bytes →
      step (opened k units costs marks) freeze ≡ frozen units costs marks f → leaves r units costs marks ≡ settlement z us cs ms bytes
  freeze_leaves k units costs marks (Ok x) r Told says told h by =
      ap (λ (y : Result FrozenBook Refusal). leaves y units costs marks) told
      ∙ frozen_after_is (opened k units costs marks) (closed (frozen_book x) units costs marks) (frozen_book x) h by
  freeze_leaves k units costs marks (Err (x, e)) r Told says told h by =
      ap (λ (y : Result FrozenBook Refusal). leaves y units costs marks) (told_error r e (Told (x, e)) (says (x, e)) told)
      ∙ not_frozen (opened k units costs marks) (opened (open_book x) units costs marks) (open_book x) e h by
