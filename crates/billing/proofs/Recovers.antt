-- The station charges of an area and day.
use Rattle.std.proofs.Common.{◌≡◌, ℕ, ◌/◌, ◌<◌, ◌≤◌, List, length, get_or, Some, sum_by, sum, sym, ap, ◌∙◌, zero-mul, arith}
use native.Mathlib.Nat.{zero-div}
use Rattle.std.specs.List.{range_with_len}
use Rattle.std.proofs.lemmas.List.FromFn.{length-range_with_len, get_or-range_with_len, length-map-range_with_len, get_or-map-range_with_len}
use Rattle.std.proofs.lemmas.List.Sums.{get_or-le-sum_by}
use Rattle.tariff.specs.declared.rows.Sizes.{Sizes}
use Rattle.tariff.specs.declared.rows.UnitRow.{UnitRow}
use Rattle.tariff.specs.declared.rows.CostRow.{CostRow}
use Rattle.lines.specs.declared.cell.Cell.{Cell}
use Rattle.lines.specs.declared.line.Kinds.TheVariants.{Only}
use Rattle.lines.specs.declared.line.Line.{Line}
use Rattle.sharing.specs.Rule.{Meaning}
use Rattle.bill_rules.specs.Bill.{units_of, units_in, station_units_of, station_charge, pool, counted, station_units, station_of, recovered}
use Rattle.bill_rules.proofs.Agreement.{all_counting}
use Rattle.bill_rules.proofs.Sums.{sum_by_same, sum_by_eq, sum_by_zero}

module _ (m : Meaning) (l : Line) (z : Sizes) (us : List UnitRow) (cs : List CostRow) (station : ℕ) (has : l.station ≡ Some station) (c : Cell) (C T : ℕ) (used : List ℕ)
    (C-is : C ≡ pool m l z us cs c) (T-is : T ≡ sum (counted m l z us cs c)) (used-is : used ≡ units_in (Only station) us z.customers c) where
  pub used_at : (k : ℕ) → k < z.customers → get_or used k 0 ≡ units_of (Only station) us c k
  used_at k lt = ap (λ xs. get_or xs k 0) used-is ∙ get_or-map-range_with_len (units_of (Only station) us c) 0 z.customers k k 0 lt (omega arith)

  pub charge_is : (k : ℕ) → k < z.customers → station_charge C (get_or used k 0) T ≡ station_of m l z us cs k c
  charge_is k lt =
      ap (λ x. station_charge x (get_or used k 0) T) C-is
      ∙ ap (λ x. station_charge (pool m l z us cs c) x T) (used_at k lt ∙ ap (λ o. station_units_of o us c k) (sym has))
      ∙ ap (λ x. station_charge (pool m l z us cs c) (station_units m l z us cs k c) x) T-is

  pub recovered_is : sum_by (λ k. station_charge C (get_or used k 0) T) (range_with_len 0 (length used)) ≡ recovered m l z us cs c
  recovered_is =
      let long : length used ≡ z.customers = ap length used-is ∙ length-map-range_with_len (units_of (Only station) us c) 0 z.customers in
      ap (λ n. sum_by (λ k. station_charge C (get_or used k 0) T) (range_with_len 0 n)) long
      ∙ sum_by_same (λ k. station_charge C (get_or used k 0) T) (λ k. station_of m l z us cs k c) (range_with_len 0 z.customers)
      (all_counting (λ k. station_charge C (get_or used k 0) T ≡ station_of m l z us cs k c) z.customers charge_is)

-- one customer's charge is some of all
pub charge_within : (m : Meaning) (l : Line) (z : Sizes) (us : List UnitRow) (cs : List CostRow) (c : Cell) (k : ℕ) → k < z.customers → station_of m l z us cs k c ≤ recovered m l z us cs c
charge_within m l z us cs c k lt =
    let le = get_or-le-sum_by (λ k. station_of m l z us cs k c) (range_with_len 0 z.customers) k 0 (omega (arith, length-range_with_len 0 z.customers)) in
    let at : get_or (range_with_len 0 z.customers) k 0 ≡ k = get_or-range_with_len 0 z.customers k 0 lt ∙ omega arith in
    omega (arith, ap (λ k. station_of m l z us cs k c) at)

-- where there are no costs there is nothing to charge
pub no_charge : (m : Meaning) (l : Line) (z : Sizes) (us : List UnitRow) (cs : List CostRow) (c : Cell) → pool m l z us cs c ≡ 0 → (k : ℕ) → station_of m l z us cs k c ≡ 0
no_charge m l z us cs c none k =
    ap (λ C. station_charge C (station_units m l z us cs k c) (sum (counted m l z us cs c))) none
    ∙ ap (λ n. n / sum (counted m l z us cs c)) (zero-mul (station_units m l z us cs k c)) ∙ zero-div (sum (counted m l z us cs c))

pub nothing_recovered : (m : Meaning) (l : Line) (z : Sizes) (us : List UnitRow) (cs : List CostRow) (c : Cell) → pool m l z us cs c ≡ 0 → recovered m l z us cs c ≡ 0
nothing_recovered m l z us cs c none =
    sum_by_eq (λ k. station_of m l z us cs k c) (λ _. 0) (range_with_len 0 z.customers) (no_charge m l z us cs c none) ∙ sum_by_zero (range_with_len 0 z.customers)
