-- A pass that a removal has voided does nothing, in any run. Assumes nothing.
use Rattle.std.proofs.Common.{◌≡◌, ℕ, ◌+◌, ◌<◌, ◌≤◌, Bool, true, false, cond, not, ◌&&◌, eqb, ltb, ◌⊎◌, List, [], ◌∷◌, length, get_or, set, Some, None, Ok, Err, Option, Result, sym, refl, ap, ◌∙◌, subst, inl, inr, ⊎_elim, arith}
use Rattle.std.proofs.lemmas.Bool.{cases_lt, cases_eq, or_cases, and_parts, and_right, eqb-true, ne_eqb, false≢true}
use Rattle.std.proofs.lemmas.List.{get_or-set_same, get_or-set_other, set_past, get_or_past}
use Rattle.tariff.specs.declared.refusal.Refusal.{Refusal}
use Rattle.tariff.specs.declared.refusal.Refusal.TheVariants.{TableUnfit, PassNotValid}
use Rattle.tariff.specs.Limits.{contributors}
use Rattle.sharing.specs.Rule.{Rule}
use Rattle.bill_rules.specs.Bill.{Figures, Lengths}
use Rattle.book_rules.specs.Machine.{Pass, valid, admit_refusal, remove_refusal, hand_in_refusal, post_refusal, correct_refusal, cost_refusal, freeze_refusal, new_pass, book_bill}
use Rattle.book_rules.specs.Run.{State, Call, admit, remove, hand_in, post, add_cost, correct, freeze, reopen, take_in, bill, Answer, Outcome, outcome, frozen_by, told_bill, perform, offers, stepped, step, Offered, Event, event, final, answers, history}
use Rattle.book_rules.specs.Passes.{latest, is, voided, pass_of, is_void, struck, others_answers}
use Rattle.book_rules.specs.Laws.{Powerless}

-- a place of a list after a write
set_either : (l : List ℕ) (i j a : ℕ) → (get_or (set l i a) j 0 ≡ a) ⊎ (get_or (set l i a) j 0 ≡ get_or l j 0)
set_either l i j a = ⊎_elim
    (λ e. ⊎_elim (λ h. inl (rw e (get_or-set_same l i a 0 h))) (λ h. inr (rw (set_past l i a h) refl)) (cases_lt i (length l)))
    (λ ne. inr (get_or-set_other l i j a 0 ne))
    (cases_eq j i)

set_zero : (l : List ℕ) (i : ℕ) → get_or (set l i 0) i 0 ≡ 0
set_zero l i = ⊎_elim (λ h. get_or-set_same l i 0 0 h) (λ h. rw (set_past l i 0 h) (get_or_past l i 0 h)) (cases_lt i (length l))

-- what lasts over a run: the passes were given out by now, and no mark is the number of a voided one
record Inv (before : List Event) (s : State) : Type 0 where
  known : (c : ℕ) (p : Pass) → latest c before ≡ Some p → (0 < p.mark) × (p.mark ≤ s.book.last_pass) × (p.contributor ≡ c)
  gone : (p : Pass) → voided p before ≡ true → (0 < p.mark) × (p.mark ≤ s.book.last_pass) × (get_or s.marks p.contributor 0 ≡ p.mark → ⊥)

abbrev Fine : List Event → Call → Outcome → Type 0
Fine before call o = Inv (record { call = call; answer = o.answer } ∷ before) o.state

-- a call that is refused, or not offered, leaves all as it was
fine_outcome : (before : List Event) (s new : State) (call : Call) (a : Answer) (o : Option Refusal) → Inv before s → Fine before call (record { state = new; answer = a }) → Fine before call (outcome o s new a)
fine_outcome before s new call a None inv h = h
fine_outcome before s new call a (Some e) inv h = record { known = inv.known; gone = inv.gone }

fine_stepped : (before : List Event) (s : State) (call : Call) (b : Bool) (o : Outcome) → Inv before s → Fine before call o → Fine before call (stepped b s o)
fine_stepped before s call true o inv h = h
fine_stepped before s call false o inv h = record { known = inv.known; gone = inv.gone }

fine_frozen : (before : List Event) (s : State) (o : Option Refusal) → Inv before s → Fine before freeze (frozen_by o s)
fine_frozen before s None inv = record { known = inv.known; gone = inv.gone }
fine_frozen before s (Some e) inv = record { known = inv.known; gone = inv.gone }

fine_told : (before : List Event) (s : State) (rule : Rule) (n : ℕ) (p : Lengths) (r : Result Figures Refusal) → Inv before s → Fine before (bill rule n p) (record { state = s; answer = told_bill r })
fine_told before s rule n p (Ok f) inv = record { known = inv.known; gone = inv.gone }
fine_told before s rule n p (Err e) inv = record { known = inv.known; gone = inv.gone }

-- an admit hands out a number that no pass had
newest : (before : List Event) (s : State) (c : ℕ) → Inv before s → (d : ℕ) (p : Pass) (b : Bool) → eqb d c ≡ b → cond b (Some (new_pass s.book c)) (latest d before) ≡ Some p → (0 < p.mark) × (p.mark ≤ s.book.last_pass + 1) × (p.contributor ≡ d)
newest before s c inv d p true e h =
    let same : new_pass s.book c ≡ p = cc in
    let m : p.mark ≡ s.book.last_pass + 1 = ap (λ (q : Pass). q.mark) (sym same) in
    let k : p.contributor ≡ c = ap (λ (q : Pass). q.contributor) (sym same) in
    (omega arith, omega arith, k ∙ sym (eqb-true d c e))
newest before s c inv d p false e h = let k = inv.known d p h in (k.0, omega (arith, k.1), k.2)

-- a write of another number makes no voided pass a mark again
written : (before : List Event) (s : State) (c a : ℕ) → Inv before s → (p : Pass) → voided p before ≡ true → (a ≡ p.mark → ⊥) → get_or (set s.marks c a) p.contributor 0 ≡ p.mark → ⊥
written before s c a inv p v ne e = ⊎_elim (λ h. ne (sym h ∙ e)) (λ h. (inv.gone p v).2 (sym h ∙ e)) (set_either s.marks c p.contributor a)

fine_admit : (before : List Event) (s : State) (c : ℕ) → Inv before s → Fine before (admit c) (perform s (admit c))
fine_admit before s c inv = fine_outcome before s _ (admit c) _ (admit_refusal s.book s.marks c) inv (record {
  known = λ d p h. newest before s c inv d p (eqb d c) refl h;
  gone = λ p v. let g = inv.gone p v in (g.0, omega (arith, g.1), written before s c (s.book.last_pass + 1) inv p v (λ e. omega (arith, e, g.1)));
})

-- a removal voids what the contributor had
taken : (before : List Event) (s : State) (c : ℕ) → Inv before s → (p : Pass) (o : Option Pass) → latest c before ≡ o → is o p ≡ true → (0 < p.mark) × (p.mark ≤ s.book.last_pass) × (p.contributor ≡ c)
taken before s c inv p None e h = absurd (false≢true h)
taken before s c inv p (Some q) e h =
    let k = inv.known c q e in
    let both = and_parts (eqb q.book p.book) (eqb q.contributor p.contributor && eqb q.mark p.mark) h in
    let rest = and_parts (eqb q.contributor p.contributor) (eqb q.mark p.mark) both.1 in
    let m = eqb-true q.mark p.mark rest.1 in
    let n = eqb-true q.contributor p.contributor rest.0 in
    (omega (arith, k.0, m), omega (arith, k.1, m), sym n ∙ k.2)

fine_remove : (before : List Event) (s : State) (c : ℕ) → Inv before s → Fine before (remove c) (perform s (remove c))
fine_remove before s c inv = fine_outcome before s _ (remove c) _ (remove_refusal s.marks c) inv (record {
  known = inv.known;
  gone = λ p v. ⊎_elim
      (λ h.
      let t = taken before s c inv p (latest c before) refl h in
      (t.0, t.1, (λ e. let z : get_or (set s.marks c 0) p.contributor 0 ≡ 0 = rw t.2 (set_zero s.marks c) in omega (arith, t.0, z, e))))
      (λ h. let g = inv.gone p h in (g.0, g.1, written before s c 0 inv p h (λ e. omega (arith, e, g.0))))
      (or_cases (is (latest c before) p) (voided p before) v);
})

fine_hand_in : (before : List Event) (s : State) (p : Pass) → Inv before s → Fine before (hand_in p) (perform s (hand_in p))
fine_hand_in before s p inv = fine_outcome before s _ (hand_in p) _ (hand_in_refusal s.book s.marks p) inv
    (record { known = inv.known; gone = λ q v. let g = inv.gone q v in (g.0, g.1, written before s p.contributor 0 inv q v (λ e. omega (arith, e, g.0))) })

fine_perform : (before : List Event) (s : State) (call : Call) → Inv before s → Fine before call (perform s call)
fine_perform before s (admit c) inv = fine_admit before s c inv
fine_perform before s (remove c) inv = fine_remove before s c inv
fine_perform before s (hand_in p) inv = fine_hand_in before s p inv
fine_perform before s (post p u) inv = fine_outcome before s _ (post p u) _ (post_refusal s.book s.units s.marks p u) inv (record { known = inv.known; gone = inv.gone })
fine_perform before s (add_cost p r) inv = fine_outcome before s _ (add_cost p r) _ (cost_refusal s.book s.costs s.marks p r) inv (record { known = inv.known; gone = inv.gone })
fine_perform before s (correct p at q) inv = fine_outcome before s _ (correct p at q) _ (correct_refusal s.book s.units s.marks p at q) inv (record { known = inv.known; gone = inv.gone })
fine_perform before s freeze inv = fine_frozen before s (freeze_refusal s.marks) inv
fine_perform before s reopen inv = record { known = inv.known; gone = inv.gone }
fine_perform before s (take_in p) inv = record { known = inv.known; gone = inv.gone }
fine_perform before s (bill rule n p) inv = fine_told before s rule n p (book_bill rule.meaning n s.book s.units s.costs p) inv

fine_step : (before : List Event) (s : State) (call : Call) → Inv before s → Fine before call (step s call)
fine_step before s call inv = fine_stepped before s call (offers s call) (perform s call) inv (fine_perform before s call inv)

-- a call with a voided pass changes nothing

invalid : (before : List Event) (s : State) (p : Pass) → Inv before s → voided p before ≡ true → valid s.book s.marks p ≡ false
invalid before s p inv v =
    and_right (eqb p.book s.book.number) _ (and_right (ltb p.contributor contributors) _ (ne_eqb (get_or s.marks p.contributor 0) p.mark (inv.gone p v).2))

-- the second test of a call with a pass is the pass
refused_by_pass : (s new : State) (a : Answer) (b v : Bool) (rest : Option Refusal) → v ≡ false → (outcome (cond b (Some TableUnfit) (cond (not v) (Some PassNotValid) rest)) s new a).state ≡ s
refused_by_pass s new a true v rest e = refl
refused_by_pass s new a false true rest e = absurd (false≢true (sym e))
refused_by_pass s new a false false rest e = refl

idle_stepped : (s : State) (b : Bool) (o : Outcome) → o.state ≡ s → (stepped b s o).state ≡ s
idle_stepped s true o h = h
idle_stepped s false o h = refl

idle_perform : (before : List Event) (s : State) (call : Call) → Inv before s → is_void before (pass_of call) ≡ true → (perform s call).state ≡ s
idle_perform before s (admit c) inv v = absurd (false≢true v)
idle_perform before s (remove c) inv v = absurd (false≢true v)
idle_perform before s (hand_in p) inv v = refused_by_pass s _ _ _ _ _ (invalid before s p inv v)
idle_perform before s (post p u) inv v = refused_by_pass s _ _ _ _ _ (invalid before s p inv v)
idle_perform before s (add_cost p r) inv v = refused_by_pass s _ _ _ _ _ (invalid before s p inv v)
idle_perform before s (correct p at q) inv v = refused_by_pass s _ _ _ _ _ (invalid before s p inv v)
idle_perform before s freeze inv v = absurd (false≢true v)
idle_perform before s reopen inv v = absurd (false≢true v)
idle_perform before s (take_in p) inv v = refl
idle_perform before s (bill rule n p) inv v = absurd (false≢true v)

idle_step : (before : List Event) (s : State) (call : Call) → Inv before s → is_void before (pass_of call) ≡ true → (step s call).state ≡ s
idle_step before s call inv v = idle_stepped s (offers s call) (perform s call) (idle_perform before s call inv v)

-- runs

fine_run : (calls : List Call) (before : List Event) (s : State) → Inv before s → Inv (history s before calls) (final s calls)
fine_run [] before s inv = inv
fine_run (call ∷ calls) before s inv = fine_run calls (event s call ∷ before) (step s call).state (fine_step before s call inv)

-- what is left after a call, with the calls that it struck out
left : State → List Event → Call → List Call → List Call
left s before call calls = struck (step s call).state (event s call ∷ before) calls

same_offered : (calls : List Call) (before : List Event) (s : State) → Inv before s → Offered s calls → Offered s (struck s before calls)
unfolding left
same_offered [] before s inv on = tt
same_offered (call ∷ calls) before s inv (here, rest) = go (is_void before (pass_of call)) refl (same_offered calls (event s call ∷ before) (step s call).state (fine_step before s call inv) rest)
  where
    go : (b : Bool) → is_void before (pass_of call) ≡ b → Offered (step s call).state (left s before call calls) → Offered s (cond b (left s before call calls) (call ∷ left s before call calls))
    go true e ih = subst (λ (t : State). Offered t (left s before call calls)) (idle_step before s call inv e) ih
    go false e ih = (here, ih)

same_state : (calls : List Call) (before : List Event) (s : State) → Inv before s → final s (struck s before calls) ≡ final s calls
unfolding left
same_state [] before s inv = refl
same_state (call ∷ calls) before s inv = go (is_void before (pass_of call)) refl (same_state calls (event s call ∷ before) (step s call).state (fine_step before s call inv))
  where
    go : (b : Bool) → is_void before (pass_of call) ≡ b → final (step s call).state (left s before call calls) ≡ final (step s call).state calls → final s (cond b (left s before call calls) (call ∷ left s before call calls)) ≡ final (step s call).state calls
    go true e ih = subst (λ (t : State). final t (left s before call calls) ≡ final (step s call).state calls) (idle_step before s call inv e) ih
    go false e ih = ih

same_answers : (calls : List Call) (before : List Event) (s : State) → Inv before s → answers s (struck s before calls) ≡ others_answers s before calls
unfolding left
same_answers [] before s inv = refl
same_answers (call ∷ calls) before s inv = go (is_void before (pass_of call)) refl (same_answers calls (event s call ∷ before) (step s call).state (fine_step before s call inv))
  where
    others : List Answer
    others = others_answers (step s call).state (event s call ∷ before) calls

    go : (b : Bool) → is_void before (pass_of call) ≡ b → answers (step s call).state (left s before call calls) ≡ others → answers s (cond b (left s before call calls) (call ∷ left s before call calls)) ≡ cond b others ((step s call).answer ∷ others)
    go true e ih = subst (λ (t : State). answers t (left s before call calls) ≡ others) (idle_step before s call inv e) ih
    go false e ih = ap (λ (l : List Answer). (step s call).answer ∷ l) ih

-- before the first call there is no pass at all
start : (s : State) → Inv [] s
start s = record { known = λ c p h. absurd (none≢some h); gone = λ p v. absurd (false≢true v) }
  where
    none≢some : {p : Pass} → ◌≡◌ {A = Option Pass} None (Some p) → ⊥
    none≢some h = let z : ◌≡◌ {A = ℕ} 0 1 = cc in omega arith

pub powerless : (s : State) → Powerless s
powerless s = record {
  offered = λ calls on. same_offered calls [] s (start s) on;
  others = λ calls on. same_answers calls [] s (start s);
  ends = λ calls on. same_state calls [] s (start s);
  idle = λ before call on v. idle_step (history s [] before) (final s before) call (fine_run before [] s (start s)) v;
}
