-- The rows that a book counts are those of its history, and lawful; so each bill follows them.
-- Assumes nothing.
use Rattle.std.proofs.Common.{◌≡◌, ℕ, zero, suc, ◌+◌, ◌≤◌, Bool, true, false, cond, ◌&&◌, ◌||◌, eqb, ltb, leb, List, [], ◌∷◌, ◌++◌, length, get_or, take, set, Some, None, Ok, Err, Option, Result, sym, refl, ap, ◌∙◌, ⊎_elim, arith, length-set, length-take-le, get_or-take}
use Rattle.std.specs.List.{AllByRecursion}
use Rattle.std.proofs.lemmas.List.Sums.{sum_by_push, sum_by-take-le}
use Rattle.std.proofs.lemmas.List.{take_more_set}
use Rattle.std.proofs.ByRecursion.{All-push, All-set, All-get_or}
use Rattle.std.proofs.lemmas.Bool.{or_parts, or_from, and_parts, eqb-true, ltb-false, leb-false, le-ltb, or_cases, false≢true, not-false}
use Rattle.tariff.specs.declared.refusal.Refusal.{Refusal}
use Rattle.tariff.specs.declared.refusal.Refusal.TheVariants.{TableUnfit, UnlawfulRow}
use Rattle.tariff.specs.declared.refusal.Table.TheVariants.{Unit as UnitTable, Cost as CostTable}
use Rattle.tariff.specs.declared.rows.Sizes.{Sizes}
use Rattle.tariff.specs.declared.rows.UnitRow.{UnitRow}
use Rattle.tariff.specs.declared.rows.CostRow.{CostRow}
use Rattle.tariff.specs.Limits.{most_amount, hours_of_day}
use Rattle.tariff.specs.Refusals.{first_of}
use Rattle.sharing.specs.Rule.{Rule}
use Rattle.lines.specs.declared.line.Kinds.TheVariants.{Only}
use Rattle.lines.specs.declared.line.Line.{Line}
use Rattle.lines.specs.Cells.{cell, holds}
use Rattle.lines.specs.Lines.{line_of, zonal, dated}
use Rattle.lines.specs.Rows.{unlawful_unit, wrong, unlawful_for, unlawful_cost, no_units, no_cost, unit_fault, cost_fault}
use Rattle.lines.specs.Sizes.{outside}
use Rattle.lines.specs.Totals.{part, cost_place, cost_line, cost_amount, cost_in, all_quantities, alike}
use Rattle.lines.proofs.Firsts.{first_none}
use Rattle.bill_rules.specs.Bill.{Figures, Lengths, bill as line_bill}
use Rattle.bill_rules.specs.Laws.{LawfulRows}
use Rattle.bill_rules.proofs.Agreement.{laws_of_billing}
use Rattle.book_rules.specs.Machine.{Pass, post_tests, post_refusal, cost_tests, cost_refusal, correct_tests, correct_refusal, corrected, with_quantity, admit_refusal, remove_refusal, hand_in_refusal, freeze_refusal, short_tables, book_bill}
use Rattle.book_rules.specs.Run.{State, Call, admit, remove, hand_in, post, add_cost, correct, freeze, reopen, take_in, bill, Answer, billed, Outcome, outcome, frozen_by, told_bill, perform, offers, stepped, step, Event, event, final, history, units_in, costs_in}
use Rattle.book_rules.specs.Laws.{past, bill_after, Follows}

-- a list of tests of which none holds
none_all : (ts : List (Bool × Refusal)) → first_of ts ≡ None → AllByRecursion (λ (t : Bool × Refusal). t.0 ≡ false) ts
none_all [] e = tt
none_all (t ∷ ts) e = go t.0 refl e (none_all ts)
  where
    go : (b : Bool) → t.0 ≡ b → cond b (Some t.1) (first_of ts) ≡ None → (first_of ts ≡ None → AllByRecursion (λ (t : Bool × Refusal). t.0 ≡ false) ts) → (t.0 ≡ false) × AllByRecursion (λ (t : Bool × Refusal). t.0 ≡ false) ts
    go true q h rest = let z : ◌≡◌ {A = ℕ} 0 1 = cc in absurd (omega arith)
    go false q h rest = (q, rest h)

take_set_in : {X : Type 0} (n : ℕ) (xs : List X) (i : ℕ) (y : X) → take n (set xs i y) ≡ set (take n xs) i y
take_set_in zero xs i y = refl
take_set_in (suc n) [] i y = refl
take_set_in (suc n) (x ∷ xs) zero y = refl
take_set_in (suc n) (x ∷ xs) (suc i) y = ap (λ l. x ∷ l) (take_set_in n xs i y)

-- what makes all rows of a book lawful
record Sound (z : Sizes) (units : List UnitRow) (costs : List CostRow) : Type 0 where
  units_lawful : AllByRecursion (λ u. unlawful_unit z u ≡ false) units
  units_sum : all_quantities units ≤ most_amount
  costs_lawful : AllByRecursion (λ r. unlawful_cost z r ≡ false) costs
  costs_sum : (r : CostRow) → unlawful_cost z r ≡ false → alike r costs ≤ most_amount

cost_part : CostRow → CostRow → ℕ
cost_part r = part cost_line cost_place cost_amount (Only r.line) (cell r.subzone r.day 0)

lawful_rows : (z : Sizes) (units : List UnitRow) (costs : List CostRow) → Sound z units costs → LawfulRows z units costs
unfolding cost_part
lawful_rows z units costs sound = record {
  units_lawful = first_none (unit_fault z units) (λ i. UnlawfulRow UnitTable i) (length units) (λ i lt.
      or_from (unlawful_unit z (get_or units i no_units)) (ltb most_amount (all_quantities (take (i + 1) units)))
      (All-get_or (λ u. unlawful_unit z u ≡ false) units i no_units lt sound.units_lawful)
      (le-ltb most_amount (all_quantities (take (i + 1) units)) (omega (arith, sound.units_sum, sum_by-take-le (λ (u : UnitRow). u.quantity) units (i + 1)))));
  costs_lawful = first_none (cost_fault z costs) (λ i. UnlawfulRow CostTable i) (length costs) (λ i lt.
      let r = get_or costs i no_cost in
      let ok : unlawful_cost z r ≡ false = All-get_or (λ r. unlawful_cost z r ≡ false) costs i no_cost lt sound.costs_lawful in
      or_from (unlawful_cost z r) (ltb most_amount (alike r (take (i + 1) costs))) ok
      (le-ltb most_amount (alike r (take (i + 1) costs)) (omega (arith, sound.costs_sum r ok, sum_by-take-le (cost_part r) costs (i + 1)))));
}

-- rows that have one limit are alike

one_field : (b : Bool) (n x y : ℕ) → wrong b n x ≡ false → wrong b n y ≡ false → (eqb x 0 || eqb x y) ≡ true → x ≡ y
one_field true n x y p q h = ⊎_elim
    (λ e. let lo = ltb-false x 1 (or_parts (ltb x 1) (ltb n x) p).0 in let z = eqb-true x 0 e in absurd (omega arith))
    (λ e. eqb-true x y e) (or_cases (eqb x 0) (eqb x y) h)
one_field false n x y p q h = eqb-true x 0 (not-false (eqb x 0) p) ∙ sym (eqb-true y 0 (not-false (eqb y 0) q))

fields_alike : (o : Option Line) (z : Sizes) (r q : CostRow) → unlawful_for o z r ≡ false → unlawful_for o z q ≡ false → holds (cell r.subzone r.day 0) (cost_place q) ≡ true → (r.subzone ≡ q.subzone) × (r.day ≡ q.day)
fields_alike None z r q p p' h = absurd (false≢true (sym p))
fields_alike (Some l) z r q p p' h =
    let a = or_parts (wrong (zonal l.area) z.subzones r.subzone) _ p in
    let a' = or_parts (wrong (zonal l.area) z.subzones q.subzone) _ p' in
    let b = or_parts (wrong (dated l.span) z.days r.day) _ a.1 in
    let b' = or_parts (wrong (dated l.span) z.days q.day) _ a'.1 in
    let f = and_parts (eqb r.subzone 0 || eqb r.subzone q.subzone) _ h in
    let g = and_parts (eqb r.day 0 || eqb r.day q.day) _ f.1 in (
      one_field (zonal l.area) z.subzones r.subzone q.subzone a.0 a'.0 f.0,
      one_field (dated l.span) z.days r.day q.day b.0 b'.0 g.0,
    )

cost_more : (z : Sizes) (costs : List CostRow) (q : CostRow) → unlawful_cost z q ≡ false → alike q costs + q.amount ≤ most_amount → ((r : CostRow) → unlawful_cost z r ≡ false → alike r costs ≤ most_amount) →
    (r : CostRow) → unlawful_cost z r ≡ false → alike r (costs ++ q ∷ []) ≤ most_amount
unfolding cost_part
cost_more z costs q ok le all r law = go (eqb q.line r.line && holds (cell r.subzone r.day 0) (cost_place q)) refl
  where
    go : (b : Bool) → (eqb q.line r.line && holds (cell r.subzone r.day 0) (cost_place q)) ≡ b → alike r (costs ++ q ∷ []) ≤ most_amount
    go false e =
        let more = sum_by_push (cost_part r) costs q in
        let none : cost_part r q ≡ 0 = ap (λ b. cond b q.amount 0) e in
        omega (arith, all r law)
    go true e =
        let more = sum_by_push (cost_part r) costs q in
        let some : cost_part r q ≡ q.amount = ap (λ b. cond b q.amount 0) e in
        let both = and_parts (eqb q.line r.line) _ e in
        let line = eqb-true q.line r.line both.0 in
        let law' : unlawful_for (line_of q.line) z r ≡ false = ap (λ n. unlawful_for (line_of n) z r) line ∙ law in
        let same = fields_alike (line_of q.line) z r q law' ok both.1 in
        let cell-is : cell r.subzone r.day 0 ≡ cell q.subzone q.day 0 = ap (λ a. cell a r.day 0) same.0 ∙ ap (λ d. cell q.subzone d 0) same.1 in
        let sum_is : alike r costs ≡ alike q costs = ap (λ n. cost_in n costs (cell r.subzone r.day 0)) (sym line) ∙ ap (cost_in q.line costs) cell-is in
        omega arith

-- what lasts over a run, by the parts that matter, so that a call that leaves them needs no proof

record Kept (z sizes : Sizes) (units : List UnitRow) (costs : List CostRow) (n : ℕ) (unit_table : List UnitRow) (m : ℕ) (cost_table : List CostRow) : Type 0 where
  same : sizes ≡ z
  units_inside : n ≤ length unit_table
  units_are : take n unit_table ≡ units
  costs_inside : m ≤ length cost_table
  costs_are : take m cost_table ≡ costs
  sound : Sound z units costs

abbrev Inv : Sizes → List Event → State → Type 0
Inv z before s = Kept z s.book.sizes (units_in before) (costs_in before) s.book.units s.units s.book.costs s.costs

abbrev Fine : Sizes → List Event → Call → Outcome → Type 0
Fine z before call o = Inv z (record { call = call; answer = o.answer } ∷ before) o.state

fine_outcome : (z : Sizes) (before : List Event) (s new : State) (call : Call) (a : Answer) (o : Option Refusal) → Inv z before s → (o ≡ None → Fine z before call (record { state = new; answer = a })) → Fine z before call (outcome o s new a)
fine_outcome z before s new call a None inv h = h refl
fine_outcome z before s new call a (Some e) inv h = inv

fine_stepped : (z : Sizes) (before : List Event) (s : State) (call : Call) (b : Bool) (o : Outcome) → Inv z before s → Fine z before call o → Fine z before call (stepped b s o)
fine_stepped z before s call true o inv h = h
fine_stepped z before s call false o inv h = inv

fine_frozen : (z : Sizes) (before : List Event) (s : State) (o : Option Refusal) → Inv z before s → Fine z before freeze (frozen_by o s)
fine_frozen z before s None inv = inv
fine_frozen z before s (Some e) inv = inv

fine_told : (z : Sizes) (before : List Event) (s : State) (rule : Rule) (n : ℕ) (p : Lengths) (r : Result Figures Refusal) → Inv z before s → Fine z before (bill rule n p) (record { state = s; answer = told_bill r })
fine_told z before s rule n p (Ok f) inv = inv
fine_told z before s rule n p (Err e) inv = inv

fine_post : (z : Sizes) (before : List Event) (s : State) (p : Pass) (u : UnitRow) → Inv z before s → Fine z before (post p u) (perform s (post p u))
fine_post z before s p u inv = fine_outcome z before s _ (post p u) _ (post_refusal s.book s.units s.marks p u) inv (λ none.
    let t = none_all (post_tests s.book s.units s.marks p u) none in
    let room = leb-false (length s.units) s.book.units t.1.1.1.0 in
    let Fits-sum = ltb-false most_amount (all_quantities (take s.book.units s.units) + u.quantity) t.1.1.1.1.0 in
    let ok : unlawful_unit z u ≡ false = ap (λ x. unlawful_unit x u) (sym inv.same) ∙ t.1.1.0 in
    let was = ap all_quantities inv.units_are in
    record {
      same = inv.same;
      units_inside = omega (arith, length-set s.units s.book.units u);
      units_are = take_more_set s.units s.book.units u (omega arith) ∙ ap (λ us. us ++ u ∷ []) inv.units_are;
      costs_inside = inv.costs_inside;
      costs_are = inv.costs_are;
      sound = record {
        units_lawful = All-push (λ u. unlawful_unit z u ≡ false) (units_in before) u inv.sound.units_lawful ok;
        units_sum = omega (arith, sum_by_push (λ (u : UnitRow). u.quantity) (units_in before) u);
        costs_lawful = inv.sound.costs_lawful;
        costs_sum = inv.sound.costs_sum;
      };
    })

fine_cost : (z : Sizes) (before : List Event) (s : State) (p : Pass) (r : CostRow) → Inv z before s → Fine z before (add_cost p r) (perform s (add_cost p r))
fine_cost z before s p r inv = fine_outcome z before s _ (add_cost p r) _ (cost_refusal s.book s.costs s.marks p r) inv (λ none.
    let t = none_all (cost_tests s.book s.costs s.marks p r) none in
    let room = leb-false (length s.costs) s.book.costs t.1.1.1.0 in
    let Fits-sum = ltb-false most_amount (alike r (take s.book.costs s.costs) + r.amount) t.1.1.1.1.0 in
    let ok : unlawful_cost z r ≡ false = ap (λ x. unlawful_cost x r) (sym inv.same) ∙ t.1.1.0 in
    let was = ap (alike r) inv.costs_are in
    record {
      same = inv.same;
      units_inside = inv.units_inside;
      units_are = inv.units_are;
      costs_inside = omega (arith, length-set s.costs s.book.costs r);
      costs_are = take_more_set s.costs s.book.costs r (omega arith) ∙ ap (λ rs. rs ++ r ∷ []) inv.costs_are;
      sound = record {
        units_lawful = inv.sound.units_lawful;
        units_sum = inv.sound.units_sum;
        costs_lawful = All-push (λ r. unlawful_cost z r ≡ false) (costs_in before) r inv.sound.costs_lawful ok;
        costs_sum = cost_more z (costs_in before) r ok (omega arith) inv.sound.costs_sum;
      };
    })

-- a new quantity leaves the other fields
still_lawful : (z : Sizes) (u : UnitRow) (q : ℕ) → unlawful_unit z u ≡ false → ltb most_amount q ≡ false → unlawful_unit z (with_quantity u q) ≡ false
still_lawful z u q h le =
    let a = or_parts (leb z.customers u.customer) _ h in
    let b = or_parts (outside 1 z.days u.day) _ a.1 in
    let c = or_parts (outside 1 hours_of_day u.hour) _ b.1 in
    let d = or_parts (outside 1 z.subzones u.subzone) _ c.1 in
    let e = or_parts (ltb 4 u.usage) _ d.1 in
    or_from (leb z.customers u.customer) _ a.0 (or_from (outside 1 z.days u.day) _ b.0 (or_from (outside 1 hours_of_day u.hour) _ c.0
    (or_from (outside 1 z.subzones u.subzone) _ d.0 (or_from (ltb 4 u.usage) _ e.0 le))))

fine_correct : (z : Sizes) (before : List Event) (s : State) (p : Pass) (at q : ℕ) → Inv z before s → Fine z before (correct p at q) (perform s (correct p at q))
fine_correct z before s p at q inv = fine_outcome z before s _ (correct p at q) _ (correct_refusal s.book s.units s.marks p at q) inv (λ none.
    let t = none_all (correct_tests s.book s.units s.marks p at q) none in
    let n = s.book.units in
    let known = leb-false n at t.1.1.1.0 in
    let Fits-sum = ltb-false most_amount (all_quantities (corrected (take n s.units) at q)) t.1.1.1.1.0 in
    let front : take n (corrected s.units at q) ≡ corrected (take n s.units) at q =
    take_set_in n s.units at _ ∙ ap (λ (u : UnitRow). set (take n s.units) at (with_quantity u q)) (sym (get_or-take n s.units at no_units known)) in
    let now : corrected (take n s.units) at q ≡ corrected (units_in before) at q = ap (λ us. corrected us at q) inv.units_are in
    let many : length (units_in before) ≡ n = ap length (sym inv.units_are) ∙ length-take-le n s.units inv.units_inside in
    let was = ap all_quantities now in
    record {
      same = inv.same;
      units_inside = omega (arith, inv.units_inside, length-set s.units at (with_quantity (get_or s.units at no_units) q));
      units_are = front ∙ now;
      costs_inside = inv.costs_inside;
      costs_are = inv.costs_are;
      sound = record {
        units_lawful = All-set (λ u. unlawful_unit z u ≡ false) (units_in before) at (with_quantity (get_or (units_in before) at no_units) q)
            (still_lawful z (get_or (units_in before) at no_units) q (All-get_or (λ u. unlawful_unit z u ≡ false) (units_in before) at no_units (omega arith) inv.sound.units_lawful) t.1.1.0) inv.sound.units_lawful;
        units_sum = omega arith;
        costs_lawful = inv.sound.costs_lawful;
        costs_sum = inv.sound.costs_sum;
      };
    })

fine_perform : (z : Sizes) (before : List Event) (s : State) (call : Call) → Inv z before s → Fine z before call (perform s call)
fine_perform z before s (admit c) inv = fine_outcome z before s _ (admit c) _ (admit_refusal s.book s.marks c) inv (λ _. inv)
fine_perform z before s (remove c) inv = fine_outcome z before s _ (remove c) _ (remove_refusal s.marks c) inv (λ _. inv)
fine_perform z before s (hand_in p) inv = fine_outcome z before s _ (hand_in p) _ (hand_in_refusal s.book s.marks p) inv (λ _. inv)
fine_perform z before s (post p u) inv = fine_post z before s p u inv
fine_perform z before s (add_cost p r) inv = fine_cost z before s p r inv
fine_perform z before s (correct p at q) inv = fine_correct z before s p at q inv
fine_perform z before s freeze inv = fine_frozen z before s (freeze_refusal s.marks) inv
fine_perform z before s reopen inv = inv
fine_perform z before s (take_in p) inv = inv
fine_perform z before s (bill rule n p) inv = fine_told z before s rule n p (book_bill rule.meaning n s.book s.units s.costs p) inv

fine_run : (z : Sizes) (calls : List Call) (before : List Event) (s : State) → Inv z before s → Inv z (history s before calls) (final s calls)
fine_run z [] before s inv = inv
fine_run z (call ∷ calls) before s inv =
    fine_run z calls (event s call ∷ before) (step s call).state (fine_stepped z before s call (offers s call) (perform s call) inv (fine_perform z before s call inv))

start : (s : State) → s.book.units ≡ 0 → s.book.costs ≡ 0 → Inv s.book.sizes [] s
start s e f = record {
  same = refl;
  units_inside = omega arith;
  units_are = ap (λ n. take n s.units) e;
  costs_inside = omega arith;
  costs_are = ap (λ n. take n s.costs) f;
  sound = record { units_lawful = tt; units_sum = omega arith; costs_lawful = tt; costs_sum = λ r h. omega arith };
}

-- a frozen book's bill is that of its history's rows
bill_is : (z : Sizes) (before : List Event) (t : State) (rule : Rule) (n : ℕ) (p : Lengths) → Inv z before t → t.is_frozen ≡ true →
    (step t (bill rule n p)).answer ≡ told_bill (line_bill rule.meaning n z (units_in before) (costs_in before) p)
bill_is z before t rule n p inv on =
    let m = rule.meaning in
    let us = take t.book.units t.units in
    let cs = take t.book.costs t.costs in
    let long : short_tables t.book t.units t.costs ≡ false =
    or_from (ltb (length t.units) t.book.units) _ (le-ltb (length t.units) t.book.units inv.units_inside) (le-ltb (length t.costs) t.book.costs inv.costs_inside) in
    ap (λ b. (stepped b t (perform t (bill rule n p))).answer) on
    ∙ ap (λ b. told_bill (cond b (Err TableUnfit) (line_bill m n t.book.sizes us cs p))) long
    ∙ ap (λ x. told_bill (line_bill m n x us cs p)) inv.same
    ∙ ap (λ l. told_bill (line_bill m n z l cs p)) inv.units_are
    ∙ ap (λ l. told_bill (line_bill m n z (units_in before) l p)) inv.costs_are

billed_ok : (r : Result Figures Refusal) (f : Figures) → told_bill r ≡ billed f → r ≡ Ok f
billed_ok (Ok g) f e = cc
billed_ok (Err x) f e = let q : ◌≡◌ {A = ℕ} 0 1 = cc in absurd (omega arith)

module _ (s : State) (no_units : s.book.units ≡ 0) (no_costs : s.book.costs ≡ 0) where
  reached : (calls : List Call) → Inv s.book.sizes (past s calls) (final s calls)
  reached calls = fine_run s.book.sizes calls [] s (start s no_units no_costs)

  pub rows_lawful : (calls : List Call) → LawfulRows s.book.sizes (units_in (past s calls)) (costs_in (past s calls))
  rows_lawful calls = lawful_rows s.book.sizes (units_in (past s calls)) (costs_in (past s calls)) (reached calls).sound

  pub bill_follows : (calls : List Call) (rule : Rule) (n : ℕ) (p : Lengths) → (final s calls).is_frozen ≡ true →
      bill_after s calls rule n p ≡ told_bill (line_bill rule.meaning n s.book.sizes (units_in (past s calls)) (costs_in (past s calls)) p)
  bill_follows calls rule n p on = bill_is s.book.sizes (past s calls) (final s calls) rule n p (reached calls) on

  pub follows : Follows s
  follows = record {
    lawful = λ before _. rows_lawful before;
    answer = λ before rule n p _ on. bill_follows before rule n p on;
    balance = λ before rule n p f _ on h.
        laws_of_billing.balance rule.meaning rule.lawful n s.book.sizes (units_in (past s before)) (costs_in (past s before)) p f (billed_ok _ f (sym (bill_follows before rule n p on) ∙ h));
    close = λ before rule l _. laws_of_billing.closeness rule.meaning rule.lawful l s.book.sizes (units_in (past s before)) (costs_in (past s before));
  }
