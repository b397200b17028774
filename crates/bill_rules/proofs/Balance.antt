-- The balance of a bill, and how near each of its figures is to its exact fraction.
use Rattle.std.proofs.Common.{◌≡◌, ℕ, zero, suc, ◌+◌, ◌*◌, ◌/◌, ◌<◌, ◌≤◌, Bool, true, false, cond, ◌&&◌, ◌||◌, eqb, ltb, List, [], ◌∷◌, length, get_or, replicate, ℤ, pos, ◌+ℤ◌, ◌-ℤ◌, Some, sum_by, sum, sym, refl, ap, ◌∙◌, subst, div-mul-le_self, arith}
use native.Mathlib.Nat.{div-zero, lt-div-mul-add}
use Rattle.std.specs.List.{range_with_len, AllByRecursion}
use Rattle.std.proofs.lemmas.List.Sums.{sum_by-cons, sum-map}
use Rattle.std.proofs.lemmas.Int.{ints}
use Rattle.std.proofs.lemmas.List.FromFn.{length-map-range_with_len, get_or-map-range_with_len}
use Rattle.std.proofs.lemmas.List.{get_or-replicate}
use Rattle.std.proofs.ByRecursion.{All-weaker}
use Rattle.std.proofs.lemmas.Bool.{eqb-true, or_parts, ltb-false, false≢true}
use Rattle.tariff.specs.declared.rows.Sizes.{Sizes}
use Rattle.tariff.specs.declared.rows.UnitRow.{UnitRow}
use Rattle.tariff.specs.declared.rows.CostRow.{CostRow}
use Rattle.tariff.specs.Limits.{hours_of_day}
use Rattle.lines.specs.declared.cell.Cell.{Cell}
use Rattle.lines.specs.declared.line.Kinds.TheVariants.{Only}
use Rattle.lines.specs.declared.line.Line.{Line}
use Rattle.lines.specs.Sizes.{outside}
use Rattle.lines.specs.Lines.{zonal, dated, timed, look_up, schedule, line_of}
use Rattle.lines.specs.Cells.{holds, areas, days, hours, cells, station_days}
use Rattle.lines.specs.Totals.{part, cost_line, cost_place, cost_amount, cost_in, line_costs}
use Rattle.lines.specs.Rows.{wrong, unlawful_for, unlawful_cost}
use Rattle.sharing.specs.Rule.{Meaning, Lawful}
use Rattle.bill_rules.specs.Bill.{sum_z, units_of, pool, counted, shares, short_of, stranded_of, station_units, station_of, recovered, credits_in, credit_of, over_of, column, figures}
use Rattle.bill_rules.specs.Laws.{Balances, Near, Close}
use Rattle.bill_rules.proofs.Sums.{sum_by_zero, sum_by_eq, sum_by_same, sum_by_swap, sum_places, sums_balance}
use Rattle.bill_rules.proofs.Cells.{on_axis, in_one}

-- a line found under a number has it
found : (ls : List Line) (n : ℕ) (l : Line) → look_up n ls ≡ Some l → n ≡ l.number
found [] n l e = let z : ◌≡◌ {A = ℕ} 0 1 = cc in absurd (omega arith)
found (m ∷ ls) n l e = go (eqb n m.number) refl e (found ls n l)
  where
    go : (b : Bool) → eqb n m.number ≡ b → cond b (Some m) (look_up n ls) ≡ Some l → (look_up n ls ≡ Some l → n ≡ l.number) → n ≡ l.number
    go true t h rest = let same : m ≡ l = cc in eqb-true n m.number t ∙ ap (λ (l : Line). l.number) same
    go false t h rest = rest h

pub line_found : (n : ℕ) (l : Line) → line_of n ≡ Some l → n ≡ l.number
unfolding line_of
line_found n l is = found schedule n l is

-- a field that is in its range
pub in_range : (n x : ℕ) → outside 1 n x ≡ false → (1 ≤ x) × (x ≤ n)
in_range n x h = let p = or_parts (ltb x 1) (ltb n x) h in (ltb-false x 1 p.0, ltb-false n x p.1)

needed : (b : Bool) (n x : ℕ) → wrong b n x ≡ false → b ≡ true → (1 ≤ x) × (x ≤ n)
needed true n x h e = in_range n x h
needed false n x h e = absurd (false≢true e)

-- the fields of a lawful cost row of a line
pub record RightFields (l : Line) (z : Sizes) (r : CostRow) : Type 0 where
  pub subzone_right : wrong (zonal l.area) z.subzones r.subzone ≡ false
  pub day_right : wrong (dated l.span) z.days r.day ≡ false
  pub hour_right : wrong (timed l.span) hours_of_day r.hour ≡ false

pub right_fields : (l : Line) (n : ℕ) (z : Sizes) (r : CostRow) → line_of n ≡ Some l → r.line ≡ n → unlawful_cost z r ≡ false → RightFields l z r
right_fields l n z r is on law =
    let same : line_of r.line ≡ Some l = ap line_of on ∙ is in
    let at : unlawful_for (Some l) z r ≡ false = ap (λ o. unlawful_for o z r) (sym same) ∙ law in
    let p = or_parts (wrong (zonal l.area) z.subzones r.subzone) _ at in
    let q = or_parts (wrong (dated l.span) z.days r.day) _ p.1 in
    let w = or_parts (wrong (timed l.span) hours_of_day r.hour) _ q.1 in
    record { subzone_right = p.0; day_right = q.0; hour_right = w.0 }

pub hour_on_axis : (l : Line) (z : Sizes) (r : CostRow) → RightFields l z r → (v : ℕ) → sum_by (λ k. cond (eqb k 0 || eqb k r.hour) v 0) (hours l) ≡ v
hour_on_axis l z r right = on_axis (timed l.span) hours_of_day r.hour (needed (timed l.span) hours_of_day r.hour right.hour_right)

-- a lawful cost row of the line stands in one of its cells
row_once : (l : Line) (n : ℕ) (z : Sizes) (r : CostRow) → line_of n ≡ Some l → unlawful_cost z r ≡ false → sum_by (λ c. part cost_line cost_place cost_amount (Only n) c r) (cells l z) ≡ cond (eqb r.line n && true) r.amount 0
row_once l n z r is law = go (eqb r.line n) refl
  where
    go : (b : Bool) → eqb r.line n ≡ b → sum_by (λ c. cond (b && holds c (cost_place r)) r.amount 0) (cells l z) ≡ cond (b && true) r.amount 0
    go false e = sum_by_zero (cells l z)
    go true e =
        let right = right_fields l n z r is (eqb-true r.line n e) law in
        in_one r.subzone r.day r.hour r.amount (areas l z) (days l z) (hours l)
        (on_axis (zonal l.area) z.subzones r.subzone (needed (zonal l.area) z.subzones r.subzone right.subzone_right))
        (on_axis (dated l.span) z.days r.day (needed (dated l.span) z.days r.day right.day_right))
        (hour_on_axis l z r right)

pub costs_once : (l : Line) (n : ℕ) (z : Sizes) (costs : List CostRow) → line_of n ≡ Some l → AllByRecursion (λ r. unlawful_cost z r ≡ false) costs → sum_by (cost_in n costs) (cells l z) ≡ line_costs n costs
costs_once l n z costs is all =
    sum_by_swap (λ c r. part cost_line cost_place cost_amount (Only n) c r) (cells l z) costs
    ∙ sum_by_same (λ r. sum_by (λ c. part cost_line cost_place cost_amount (Only n) c r) (cells l z)) (λ (r : CostRow). cond (eqb r.line n && true) r.amount 0) costs
    (All-weaker (λ r. unlawful_cost z r ≡ false) (λ (r : CostRow). sum_by (λ c. part cost_line cost_place cost_amount (Only n) c r) (cells l z) ≡ cond (eqb r.line n && true) r.amount 0) (λ r law. row_once l n z r is law) costs all)

sum_zeros : (n : ℕ) → sum (replicate n 0) ≡ 0
sum_zeros zero = refl
sum_zeros (suc n) = omega (arith, sum_by-cons (λ x. x) 0 (replicate n 0), sum_zeros n)

module _ (m : Meaning) (law : Lawful m) (l : Line) (z : Sizes) (units : List UnitRow) (costs : List CostRow) where
  pub many : (C : ℕ) (c : Cell) → length (m C (counted m l z units costs c)) ≡ z.customers
  many C c = law.many C (counted m l z units costs c) ∙ length-map-range_with_len (units_of l.counted units c) 0 z.customers

  -- a column's sum, cell by cell
  pub column_sum : (C : Cell → ℕ) (cs : List Cell) → sum (column m l z units costs (λ k c. get_or (m (C c) (counted m l z units costs c)) k 0) cs) ≡ sum_by (λ c. sum (m (C c) (counted m l z units costs c))) cs
  column_sum C cs =
      sum-map (λ k. sum_by (λ c. get_or (m (C c) (counted m l z units costs c)) k 0) cs) (range_with_len 0 z.customers)
      ∙ sum_by_swap (λ k c. get_or (m (C c) (counted m l z units costs c)) k 0) (range_with_len 0 z.customers) cs
      ∙ sum_by_eq (λ c. sum_by (λ k. get_or (m (C c) (counted m l z units costs c)) k 0) (range_with_len 0 z.customers)) (λ c. sum (m (C c) (counted m l z units costs c))) cs
      (λ c. sum_places (m (C c) (counted m l z units costs c)) z.customers (many (C c) c))

  -- the shares of a cell, with what is short or stranded, are its pool
  cell_balance : (c : Cell) → (pos (sum (shares m l z units costs c)) +ℤ short_of m l z units costs c) +ℤ pos (stranded_of m l z units costs c) ≡ pos (pool m l z units costs c)
  cell_balance c = go (eqb (sum (counted m l z units costs c)) 0) refl
    where
      go : (b : Bool) → eqb (sum (counted m l z units costs c)) 0 ≡ b →
          (pos (sum (shares m l z units costs c)) +ℤ cond b (pos 0) (pos (pool m l z units costs c) -ℤ pos (sum (shares m l z units costs c)))) +ℤ pos (cond b (pool m l z units costs c) 0) ≡ pos (pool m l z units costs c)
      go true e =
          let none : sum (shares m l z units costs c) ≡ 0 = ap sum (law.idle (pool m l z units costs c) (counted m l z units costs c) (eqb-true (sum (counted m l z units costs c)) 0 e)) ∙ sum_zeros (length (counted m l z units costs c)) in
          omega (arith, ints)
      go false e = omega (arith, ints)

  pub charges_balance : sum_by (cost_in l.number costs) (cells l z) ≡ line_costs l.number costs →
      (pos (sum (figures m l z units costs).charges) +ℤ (figures m l z units costs).short) +ℤ (figures m l z units costs).stranded ≡ pos (line_costs l.number costs)
  charges_balance once =
      ap (λ x. (pos x +ℤ (figures m l z units costs).short) +ℤ (figures m l z units costs).stranded) (column_sum (pool m l z units costs) (cells l z))
      ∙ sums_balance (λ c. sum (shares m l z units costs c)) (stranded_of m l z units costs) (pool m l z units costs) (short_of m l z units costs) (cells l z) cell_balance
      ∙ ap pos once

  station_sum : (ds : List Cell) → sum (column m l z units costs (station_of m l z units costs) ds) ≡ sum_by (recovered m l z units costs) ds
  station_sum ds =
      sum-map (λ k. sum_by (station_of m l z units costs k) ds) (range_with_len 0 z.customers)
      ∙ sum_by_swap (λ k d. station_of m l z units costs k d) (range_with_len 0 z.customers) ds

  credits_of : (ds : List Cell) → (pos (sum (column m l z units costs (credit_of m l z units costs) ds)) +ℤ sum_z (over_of m l z units costs) ds) +ℤ pos 0 ≡ pos (sum (column m l z units costs (station_of m l z units costs) ds))
  credits_of ds =
      ap (λ x. (pos x +ℤ sum_z (over_of m l z units costs) ds) +ℤ pos 0) (column_sum (recovered m l z units costs) ds)
      ∙ ap (λ x. (pos (sum_by (λ d. sum (credits_in m l z units costs d)) ds) +ℤ sum_z (over_of m l z units costs) ds) +ℤ pos x) (sym (sum_by_zero ds))
      ∙ sums_balance (λ d. sum (credits_in m l z units costs d)) (λ _. 0) (recovered m l z units costs) (over_of m l z units costs) ds (λ d. omega (arith, ints))
      ∙ ap pos (sym (station_sum ds))

  -- the credits, with what is over, are the station charges
  pub credits_balance : pos (sum (figures m l z units costs).credits) +ℤ (figures m l z units costs).over ≡ pos (sum (figures m l z units costs).stations)
  credits_balance = let e = credits_of (station_days l z) in omega (arith, ints)

  pub balanced : (n : ℕ) → line_of n ≡ Some l → AllByRecursion (λ r. unlawful_cost z r ≡ false) costs → Balances (figures m l z units costs) (line_costs n costs)
  balanced n is all =
      let f = figures m l z units costs in
      let same = line_found n l is in
      let once = subst (λ n. sum_by (cost_in n costs) (cells l z) ≡ line_costs n costs) same (costs_once l n z costs is all) in
      let charged = charges_balance once ∙ ap (λ n. pos (line_costs n costs)) (sym same) in
      joins (sum f.charges) (sum f.stations) (sum f.credits) (line_costs n costs) f.short f.over f.stranded charged credits_balance
    where
      joins : (charges stations credits all : ℕ) (short over stranded : ℤ) → (pos charges +ℤ short) +ℤ stranded ≡ pos all → pos credits +ℤ over ≡ pos stations →
          (((((pos charges +ℤ pos stations) -ℤ pos credits) +ℤ short) -ℤ over) +ℤ stranded) ≡ pos all
      joins charges stations credits all short over stranded p q = omega (arith, ints)

  -- a rule's share of a pool
  rule_near : (C : ℕ) (c : Cell) (k : ℕ) → k < z.customers → Near (get_or (m C (counted m l z units costs c)) k 0) C (units_of l.counted units c k) (sum (counted m l z units costs c))
  rule_near C c k lt =
      let us = counted m l z units costs c in
      let n : length us ≡ z.customers = length-map-range_with_len (units_of l.counted units c) 0 z.customers in
      let at : get_or us k 0 ≡ units_of l.counted units c k = get_or-map-range_with_len (units_of l.counted units c) 0 z.customers k k 0 lt (omega arith) in
      record {
        idle = λ e. ap (λ xs. get_or xs k 0) (law.idle C us e) ∙ get_or-replicate (length us) k 0 0 (omega arith);
        below = λ h. subst (λ u. get_or (m C us) k 0 * sum us < C * u + sum us) at (law.near C us k h (omega arith)).0;
        above = λ h. subst (λ u. C * u < get_or (m C us) k 0 * sum us + sum us) at (law.near C us k h (omega arith)).1;
      }

  quotient_near : (C s T : ℕ) → Near (C * s / T) C s T
  quotient_near C s T = record {
    idle = λ e. ap (λ t. C * s / t) e ∙ div-zero (C * s);
    below = λ h. omega (arith, div-mul-le_self (C * s) T);
    above = λ h. lt-div-mul-add {a = C * s} {b = T} h;
  }

  pub close : Close m l z units costs
  close = record {
    shares = λ c k lt. rule_near (pool m l z units costs c) c k lt;
    stations = λ d k lt. quotient_near (pool m l z units costs d) (station_units m l z units costs k d) (sum (counted m l z units costs d));
    credits = λ d k lt. rule_near (recovered m l z units costs d) d k lt;
  }
