-- Lawful rows of a book of checked sizes are sound for a bill.
use Rattle.std.proofs.Common.{◌≡◌, ℕ, zero, suc, ◌+◌, ◌-◌, ◌*◌, ◌<◌, ◌≤◌, Bool, true, false, ◌&&◌, ◌||◌, eqb, ltb, leb, List, length, get_or, take, Some, None, sum_by, sym, refl, ap, ◌∙◌, subst, inl, inr, ⊎_elim, add-mul, add-one, arith, take_all}
use Rattle.std.specs.List.{range_with_len}
use Rattle.std.proofs.ByRecursion.{All-weaker}
use Rattle.std.proofs.lemmas.List.Elements.{All-from_recursion}
use Rattle.std.proofs.lemmas.List.Sums.{sum_by-cons, sum_by_more}
use Rattle.std.proofs.lemmas.Bool.{or_parts, or_cases, and_parts, leb-false, ltb-false, eqb-true, not-false, cases_Bool, cases_lt, false≢true, cond-false}
use Rattle.tariff.specs.declared.refusal.Refusal.TheVariants.{UnlawfulRow}
use Rattle.tariff.specs.declared.refusal.Table.TheVariants.{Unit as UnitTable, Cost as CostTable}
use Rattle.tariff.specs.declared.rows.Sizes.{Sizes}
use Rattle.tariff.specs.declared.rows.UnitRow.{UnitRow}
use Rattle.tariff.specs.declared.rows.CostRow.{CostRow}
use Rattle.tariff.specs.Limits.{most_customers, most_days, most_subzones, hours_of_day, most_amount}
use Rattle.tariff.specs.Refusals.{first_of}
use Rattle.lines.specs.declared.line.Kinds.TheVariants.{Only}
use Rattle.lines.specs.declared.line.Line.{Line}
use Rattle.lines.specs.Sizes.{outside, unfit}
use Rattle.lines.specs.Lines.{zonal, dated, timed, line_of}
use Rattle.lines.specs.Cells.{cell, in_area, at_time, holds, axis, areas, days, hours}
use Rattle.lines.specs.Totals.{all_quantities, part, cost_line, cost_place, cost_amount, cost_in, line_costs, alike}
use Rattle.lines.specs.Rows.{wrong, unlawful_unit, unlawful_cost, unit_fault, cost_fault, unit_faults, cost_faults, no_units, no_cost}
use Rattle.lines.proofs.Firsts.{first_fails}
use Rattle.bill_rules.specs.Laws.{LawfulRows}
use Rattle.bill_rules.proofs.Balance.{line_found, in_range, right_fields, costs_once}
use Rattle.bill_rules.proofs.Cells.{sum_by_grid}
use Rattle.bill_rules.proofs.Agreement.{units_allowed, costs_allowed, dated_station}
use Rattle.billing.specs.Work.{OnAxis, Proper, Sound}
use Rattle.billing.proofs.Pools.{hour_within}

-- a lawful field that a cell holds is the cell's
field_is : (b : Bool) (most x v : ℕ) → OnAxis b x → wrong b most v ≡ false → (eqb x 0 || eqb x v) ≡ true → v ≡ x
field_is true most x v on right in' =
    ⊎_elim (λ z. absurd (let e = eqb-true x 0 z in let lo = on.0 refl in omega arith)) (λ same. sym (eqb-true x v same)) (or_cases (eqb x 0) (eqb x v) in')
field_is false most x v on right in' = let z = eqb-true v 0 (not-false (eqb v 0) right) in let none = on.1 refl in omega arith

module _ (n : ℕ) (l : Line) (z : Sizes) (costs : List CostRow) (is : line_of n ≡ Some l) (lawful : first_of (cost_faults z costs) ≡ None) (a d : ℕ) (proper : Proper l a d) where
  abbrev at : CostRow → ℕ
  at = part cost_line cost_place cost_amount (Only n) (cell a d 0)

  -- the costs up to a row of the area and day are those alike it
  here : (i : ℕ) → i < length costs → eqb (get_or costs i no_cost).line n ≡ true → holds (cell a d 0) (cost_place (get_or costs i no_cost)) ≡ true → cost_in n (take (i + 1) costs) (cell a d 0) ≤ most_amount
  here i lt on in' =
      let row = get_or costs i no_cost in
      let fault = or_parts (unlawful_cost z row) (ltb most_amount (alike row (take (i + 1) costs))) (first_fails (cost_fault z costs) (λ i. UnlawfulRow CostTable i) (length costs) lawful i lt) in
      let same : row.line ≡ n = eqb-true row.line n on in
      let right = right_fields l n z row is same fault.0 in
      let ins = and_parts (in_area a row.subzone) _ in' in
      let ind = and_parts (at_time d row.day) _ ins.1 in
      let subzone : row.subzone ≡ a = field_is (zonal l.area) z.subzones a row.subzone proper.area_on right.subzone_right ins.0 in
      let day : row.day ≡ d = field_is (dated l.span) z.days d row.day proper.day_on right.day_right ind.0 in
      let le : alike row (take (i + 1) costs) ≤ most_amount = ltb-false most_amount _ fault.1 in
      let e : alike row (take (i + 1) costs) ≡ cost_in n (take (i + 1) costs) (cell a d 0) =
      ap (λ k. cost_in k (take (i + 1) costs) (cell row.subzone row.day 0)) same
      ∙ ap (λ s. cost_in n (take (i + 1) costs) (cell s row.day 0)) subzone ∙ ap (λ t. cost_in n (take (i + 1) costs) (cell a t 0)) day in
      omega arith

  step : (i : ℕ) → i < length costs → cost_in n (take i costs) (cell a d 0) ≤ most_amount → cost_in n (take (i + 1) costs) (cell a d 0) ≤ most_amount
  step i lt before =
      let row = get_or costs i no_cost in
      let more = sum_by_more at costs i no_cost lt in
      elim (cases_Bool (eqb row.line n && holds (cell a d 0) (cost_place row))) [
        | inl in' ↦ let p = and_parts (eqb row.line n) _ in' in here i lt p.0 p.1
        | inr out ↦ let none : at row ≡ 0 = cond-false (eqb row.line n && holds (cell a d 0) (cost_place row)) row.amount 0 out in omega arith
      ]

  front : (i : ℕ) → i ≤ length costs → cost_in n (take i costs) (cell a d 0) ≤ most_amount
  front zero le = omega arith
  front (suc i) le = subst (λ k. cost_in n (take k costs) (cell a d 0) ≤ most_amount) (add-one i) (step i (omega arith) (front i (omega arith)))

  pub day_limit : cost_in n costs (cell a d 0) ≤ most_amount
  day_limit = subst (λ cs. cost_in n cs (cell a d 0) ≤ most_amount) (take_all (length costs) costs (omega arith)) (front (length costs) (omega arith))

-- all quantities of lawful unit rows
units_limit : (z : Sizes) (units : List UnitRow) → first_of (unit_faults z units) ≡ None → all_quantities units ≤ most_amount
units_limit z units lawful = elim (cases_lt 0 (length units)) [
  | inl some ↦
      let i = length units - 1 in
      let fault = or_parts (unlawful_unit z (get_or units i no_units)) (ltb most_amount (all_quantities (take (i + 1) units))) (first_fails (unit_fault z units) (λ i. UnlawfulRow UnitTable i) (length units) lawful i (omega arith)) in
      subst (λ us. all_quantities us ≤ most_amount) (take_all (i + 1) units (omega arith)) (ltb-false most_amount _ fault.1)
  | inr none ↦ subst (λ us. all_quantities us ≤ most_amount) (take_all 0 units none) (omega arith)
]

pub sound_from : (n : ℕ) (l : Line) (z : Sizes) (units : List UnitRow) (costs : List CostRow) → line_of n ≡ Some l → unfit z ≡ false → LawfulRows z units costs → Sound l z units costs
sound_from n l z units costs is fit lawful =
    let p = or_parts (outside 1 most_customers z.customers) _ fit in
    let q = or_parts (outside 1 most_days z.days) _ p.1 in
    record {
      customers_few = (in_range most_customers z.customers p.0).1;
      days_few = (in_range most_days z.days q.0).1;
      subzones_few = (in_range most_subzones z.subzones q.1).1;
      customers_known = All-from_recursion (λ (u : UnitRow). u.customer < z.customers) units (All-weaker (λ u. unlawful_unit z u ≡ false) (λ (u : UnitRow). u.customer < z.customers) (λ u law. leb-false z.customers u.customer (or_parts (leb z.customers u.customer) _ law).0) units (units_allowed z units lawful.units_lawful));
      units_fit = units_limit z units lawful.units_lawful;
      station_dated = λ station has. dated_station n l station is has;
      costs_fit = λ a d h proper.
          let same = line_found n l is in
          let le = day_limit n l z costs is lawful.costs_lawful a d proper in
          let e : cost_in n costs (cell a d 0) ≡ cost_in l.number costs (cell a d 0) = ap (λ k. cost_in k costs (cell a d 0)) same in
          omega (arith, hour_within l.number costs a d h);
      costs_once = costs_once l l.number z costs (ap line_of (sym (line_found n l is)) ∙ is) (costs_allowed z costs lawful.costs_lawful);
    }

-- a sum over an axis
counted_le : (f : ℕ → ℕ) (u a n : ℕ) → ((x : ℕ) → 1 ≤ x → f x ≤ u) → 1 ≤ a → sum_by f (range_with_len a n) ≤ n * u
counted_le f u a zero each lo = omega arith
counted_le f u a (suc n) each lo = omega (arith, sum_by-cons f a (range_with_len (a + 1) n), each a lo, counted_le f u (a + 1) n each (omega arith), add-mul 1 n u)

axis_le : (f : ℕ → ℕ) (b : Bool) (most u : ℕ) → ((x : ℕ) → OnAxis b x → f x ≤ u) → sum_by f (axis b most) ≤ (most + 1) * u
axis_le f true most u each = omega (arith, counted_le f u 1 most (λ x lo. each x (λ _. lo, λ t. absurd (false≢true (sym t)))) (omega arith), add-mul most 1 u)
axis_le f false most u each = omega (arith, each 0 (λ t. absurd (false≢true t), λ _. refl), add-mul most 1 u)

-- the most that the costs of a line come to: 24 hours and one more, 31 days and one more, 32 areas and one more
pub line_costs_within : (l : Line) (z : Sizes) (units : List UnitRow) (costs : List CostRow) → Sound l z units costs → line_costs l.number costs ≤ 56693568280800
line_costs_within l z units costs sound =
    let n = l.number in
    let f = cost_in n costs in
    let split = sum_by_grid f (areas l z) (days l z) (hours l) in
    let by-hours : (a d : ℕ) → Proper l a d → sum_by (λ h. f (cell a d h)) (hours l) ≤ 53687091175 = λ a d proper.
    axis_le (λ h. f (cell a d h)) (timed l.span) hours_of_day most_amount (λ h _. sound.costs_fit a d h proper) in
    let by_days : (a : ℕ) → OnAxis (zonal l.area) a → sum_by (λ d. sum_by (λ h. f (cell a d h)) (hours l)) (days l z) ≤ 1717986917600 = λ a on.
    let le = axis_le (λ d. sum_by (λ h. f (cell a d h)) (hours l)) (dated l.span) z.days 53687091175 (λ d day. by-hours a d (record { area_on = on; day_on = day })) in omega (arith, sound.days_few) in
    let all = axis_le (λ a. sum_by (λ d. sum_by (λ h. f (cell a d h)) (hours l)) (days l z)) (zonal l.area) z.subzones 1717986917600 by_days in
    omega (arith, sound.subzones_few, sound.costs_once)

-- the same, as it is asked for with the rows' lawfulness at hand
pub costs_within : (l : Line) (z : Sizes) (units : List UnitRow) (costs : List CostRow) → line_of l.number ≡ Some l → LawfulRows z units costs → Sound l z units costs → line_costs l.number costs ≤ 56693568280800
costs_within l z units costs is lawful sound = line_costs_within l z units costs sound
