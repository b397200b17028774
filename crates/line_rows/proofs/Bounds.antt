-- How large the figures of an accepted bill can be, under any lawful rule.
use Rattle.std.proofs.Common.{◌≡◌, ℕ, ◌*◌, ◌^◌, ◌<◌, ◌≤◌, Bool, true, false, cond, eqb, ltb, List, [], ◌∷◌, map, length, get_or, is_some, Some, None, Ok, sum_by, Option, sym, refl, ap, ◌∙◌, subst, add-mul, arith}
use Rattle.std.specs.List.{flat_map, AllByRecursion}
use Rattle.std.proofs.lemmas.Nat.{mul-le}
use Rattle.std.proofs.lemmas.List.FromFn.{length-range_with_len, length-map-range_with_len, get_or-map-range_with_len}
use Rattle.std.proofs.ByRecursion.{All-weaker}
use Rattle.std.proofs.lemmas.List.{length-append}
use Rattle.std.proofs.lemmas.List.Sums.{sum_by-cons}
use Rattle.std.proofs.lemmas.Bool.{ltb-false}
use Rattle.tariff.specs.declared.rows.Sizes.{Sizes}
use Rattle.tariff.specs.declared.rows.UnitRow.{UnitRow}
use Rattle.tariff.specs.declared.rows.CostRow.{CostRow}
use Rattle.tariff.specs.Limits.{most_customers, most_days, most_subzones, most_amount}
use Rattle.tariff.specs.Refusals.{first_of}
use Rattle.tariff.proofs.Refused.{ok_tells}
use Rattle.lines.specs.declared.cell.Cell.{Cell}
use Rattle.lines.specs.declared.line.Line.{Line}
use Rattle.lines.specs.Sizes.{unfit}
use Rattle.lines.specs.Lines.{zonal, schedule, look_up, line_of}
use Rattle.lines.specs.Cells.{axis, areas, cells, whole_days, days_for, station_days}
use Rattle.sharing.specs.Rule.{Meaning, Lawful}
use Rattle.bill_rules.specs.Bill.{pool, counted, share_of, station_of, recovered, credit_of, column, Figures, figures, figures_for, too_large_at, too_large, too_large_for, Lengths, bill_refusal, bill}
use Rattle.bill_rules.specs.Laws.{LawfulRows}
use Rattle.bill_rules.proofs.Agreement.{costs_allowed, accepted}
use Rattle.bill_rules.proofs.Balance.{line_found, costs_once}
use Rattle.bill_rules.proofs.Sums.{sum_by_mono}
use Rattle.billing.specs.Work.{Upto, Sound}
use Rattle.line_rows.specs.Writing.{stationed}
use Rattle.billing.proofs.Pools.{many_counted, share_le, share_within}
use Rattle.billing.proofs.Recovers.{charge_within}
use Rattle.billing.proofs.Soundness.{sound_from, costs_within}

-- the most that a customer is charged on a line, and that it is charged or credited for stations:
-- 32 areas and 31 days of the most that one area and day may come to
abbrev pub most_charge : ℕ
most_charge = 56693568280800

abbrev pub most_station : ℕ
most_station = 2130303777824

pub sum_within : {X : Type 0} (f : X → ℕ) (most : ℕ) (xs : List X) → AllByRecursion (λ x. f x ≤ most) xs → sum_by f xs ≤ length xs * most
sum_within f most [] all = omega arith
sum_within f most (x ∷ xs) (here, rest) = omega (arith, sum_by-cons f x xs, here, sum_within f most xs rest, add-mul 1 (length xs) most)

-- where no R is too large, each is within the limit
none_too_large : (m : Meaning) (l : Line) (z : Sizes) (us : List UnitRow) (cs : List CostRow) (ds : List Cell) → first_of (map (too_large_at m l z us cs) ds) ≡ None → AllByRecursion (λ d. recovered m l z us cs d ≤ most_amount) ds
none_too_large m l z us cs [] none = tt
none_too_large m l z us cs (d ∷ ds) none = go (ltb most_amount (recovered m l z us cs d)) refl none (none_too_large m l z us cs ds)
  where
    go : (b : Bool) → ltb most_amount (recovered m l z us cs d) ≡ b → cond b (Some (too_large_at m l z us cs d).1) (first_of (map (too_large_at m l z us cs) ds)) ≡ None →
        (first_of (map (too_large_at m l z us cs) ds) ≡ None → AllByRecursion (λ d. recovered m l z us cs d ≤ most_amount) ds) → AllByRecursion (λ d. recovered m l z us cs d ≤ most_amount) (d ∷ ds)
    go true e h rest = let q : ◌≡◌ {A = ℕ} 0 1 = cc in absurd (omega arith)
    go false e h rest = (ltb-false most_amount (recovered m l z us cs d) e, rest h)

-- how many areas and days a station part has
length_joined : {X Y : Type 0} (g : X → List Y) (n : ℕ) (xs : List X) → ((x : X) → length (g x) ≡ n) → length (flat_map g xs) ≡ length xs * n
length_joined g n [] each = omega arith
length_joined g n (x ∷ xs) each = omega (arith, length-append (g x) (flat_map g xs), each x, length_joined g n xs each, add-mul 1 (length xs) n)

few_areas : (b : Bool) (n : ℕ) → n ≤ most_subzones → length (axis b n) ≤ most_subzones
few_areas true n few = omega (arith, length-range_with_len 1 n)
few_areas false n few = omega arith

few_days : (o : Option ℕ) (l : Line) (z : Sizes) → z.subzones ≤ most_subzones → z.days ≤ most_days → length (days_for o l z) ≤ most_subzones * most_days
few_days None l z few short = omega arith
few_days (Some station) l z few short =
    let all = length_joined (whole_days z) z.days (areas l z) (λ a. length-map-range_with_len (λ d. record { area = a; day = d; hour = 0 }) 1 z.days) in
    let many = few_areas (zonal l.area) z.subzones few in
    omega (arith, mul-le (length (areas l z)) z.days most_subzones most_days many short)

-- the lines have numbers of one digit
found_in : (P : Line → Type 0) (n : ℕ) (l : Line) (ls : List Line) → AllByRecursion P ls → look_up n ls ≡ Some l → P l
found_in P n l [] all h = let q : ◌≡◌ {A = ℕ} 0 1 = cc in absurd (omega arith)
found_in P n l (x ∷ ls) (here, rest) h = go (eqb n x.number) h (found_in P n l ls rest)
  where
    go : (b : Bool) → cond b (Some x) (look_up n ls) ≡ Some l → (look_up n ls ≡ Some l → P l) → P l
    go true e later = let same : x ≡ l = cc in subst P same here
    go false e later = later e

pub one_digit : (n : ℕ) (l : Line) → line_of n ≡ Some l → n < 10
unfolding line_of
one_digit n l is =
    let few = found_in (λ l. l.number < 10) n l schedule (omega arith, (omega arith, (omega arith, (omega arith, (omega arith, (omega arith, (omega arith, tt))))))) is in
    omega (arith, line_found n l is)

-- without a station part nothing is charged or credited for stations
abbrev pub station_most : Bool → ℕ
station_most b = cond b most_station 0

days_most : (o : Option ℕ) (l : Line) (z : Sizes) (f : Cell → ℕ) → sum_by f (days_for o l z) ≤ most_station → sum_by f (days_for o l z) ≤ station_most (is_some o)
days_most None l z f le = omega arith
days_most (Some station) l z f le = le

module _ (m : Meaning) (law : Lawful m) (n : ℕ) (l : Line) (z : Sizes) (us : List UnitRow) (cs : List CostRow)
    (is : line_of n ≡ Some l) (fit : unfit z ≡ false) (lawful : LawfulRows z us cs) (small : first_of (too_large m l z us cs) ≡ None) where
  sound : Sound l z us cs
  sound = sound_from n l z us cs is fit lawful

  charge_le : (k : ℕ) → k < z.customers → sum_by (share_of m l z us cs k) (cells l z) ≤ most_charge
  charge_le k lt =
      let same = line_found n l is in
      let own : line_of l.number ≡ Some l = ap line_of (sym same) ∙ is in
      let le = sum_by_mono (share_of m l z us cs k) (pool m l z us cs) (λ c. share_within m law l z us cs sound c k lt) (cells l z) in
      let once = costs_once l l.number z cs own (costs_allowed z cs lawful.costs_lawful) in
      omega (arith, costs_within l z us cs own lawful sound)

  days_within : (f : Cell → ℕ) → ((d : Cell) → f d ≤ recovered m l z us cs d) → sum_by f (station_days l z) ≤ station_most (is_some l.station)
  days_within f each =
      let all = All-weaker (λ d. recovered m l z us cs d ≤ most_amount) (λ d. f d ≤ most_amount) (λ d le. omega (arith, each d)) (station_days l z) (none_too_large m l z us cs (station_days l z) small) in
      let few = few_days l.station l z sound.subzones_few sound.days_few in
      days_most l.station l z f (omega (arith, sum_within f most_amount (station_days l z) all, mul-le (length (station_days l z)) most_amount (most_subzones * most_days) most_amount few (omega arith)))

  column_le : (f : ℕ → Cell → ℕ) (ds : List Cell) (most : ℕ) → ((k : ℕ) → k < z.customers → sum_by (f k) ds ≤ most) → Upto (column m l z us cs f ds) most
  column_le f ds most each k lt =
      let long = length-map-range_with_len (λ k. sum_by (f k) ds) 0 z.customers in
      let at : get_or (column m l z us cs f ds) k 0 ≡ sum_by (f k) ds = get_or-map-range_with_len (λ k. sum_by (f k) ds) 0 z.customers k k 0 (omega arith) (omega arith) in
      omega (arith, each k (omega arith))

  small_charges : Upto (figures m l z us cs).charges most_charge
  small_charges = column_le (share_of m l z us cs) (cells l z) most_charge charge_le

  small_stations : Upto (figures m l z us cs).stations (station_most (is_some l.station))
  small_stations = column_le (station_of m l z us cs) (station_days l z) (station_most (is_some l.station)) (λ k lt. days_within (station_of m l z us cs k) (λ d. charge_within m l z us cs d k lt))

  small_credits : Upto (figures m l z us cs).credits (station_most (is_some l.station))
  small_credits = column_le (credit_of m l z us cs) (station_days l z) (station_most (is_some l.station))
      (λ k lt. days_within (credit_of m l z us cs k) (λ d. share_le m law (recovered m l z us cs d) (counted m l z us cs d) k (omega (arith, many_counted m law l z us cs sound d))))

-- the figures of an accepted bill
pub record Small (n : ℕ) (z : Sizes) (f : Figures) : Type 0 where
  pub digit : n < 10
  pub customers_few : z.customers ≤ most_customers
  pub charges_many : length f.charges ≡ z.customers
  pub stations_many : length f.stations ≡ z.customers
  pub credits_many : length f.credits ≡ z.customers
  pub charges_small : Upto f.charges most_charge
  pub stations_small : Upto f.stations (station_most (stationed (line_of n)))
  pub credits_small : Upto f.credits (station_most (stationed (line_of n)))

pub figures_small : (m : Meaning) → Lawful m → (n : ℕ) (z : Sizes) (us : List UnitRow) (cs : List CostRow) (p : Lengths) (f : Figures) → unfit z ≡ false → bill m n z us cs p ≡ Ok f → Small n z f
figures_small m law n z us cs p f fit h =
    let t = ok_tells (bill_refusal m n z us cs p) f (figures_for m (line_of n) z us cs) (sym h) in
    let acc = accepted m n z us cs p t.0 in
    go (line_of n) refl acc.known acc.small acc.lawful t.1
  where
    go : (o : Option Line) → line_of n ≡ o → is_some o ≡ true → first_of (too_large_for m o z us cs) ≡ None → LawfulRows z us cs → f ≡ figures_for m o z us cs → Small n z f
    go None is known small lawful same = let q : ◌≡◌ {A = Bool} false true = known in absurd (let e : ◌≡◌ {A = ℕ} 0 1 = cc in omega arith)
    go (Some l) is known small lawful same =
        let part : stationed (line_of n) ≡ is_some l.station = ap stationed is in
        subst (Small n z) (sym same) (record {
          digit = one_digit n l is;
          customers_few = (sound m law n l z us cs is fit lawful small).customers_few;
          charges_many = length-map-range_with_len (λ k. sum_by (share_of m l z us cs k) (cells l z)) 0 z.customers;
          stations_many = length-map-range_with_len (λ k. sum_by (station_of m l z us cs k) (station_days l z)) 0 z.customers;
          credits_many = length-map-range_with_len (λ k. sum_by (credit_of m l z us cs k) (station_days l z)) 0 z.customers;
          charges_small = small_charges m law n l z us cs is fit lawful small;
          stations_small = subst (λ b. Upto (figures m l z us cs).stations (station_most b)) (sym part) (small_stations m law n l z us cs is fit lawful small);
          credits_small = subst (λ b. Upto (figures m l z us cs).credits (station_most b)) (sym part) (small_credits m law n l z us cs is fit lawful small);
        })

-- all of them are far from the largest number
station_below : (b : Bool) → station_most b ≤ 2 ^ 48
station_below true = omega arith
station_below false = omega arith

pub far_below : (n : ℕ) (z : Sizes) (f : Figures) → Small n z f → Upto f.charges (2 ^ 48) × Upto f.stations (2 ^ 48) × Upto f.credits (2 ^ 48)
far_below n z f small =
    let most = station_below (stationed (line_of n)) in
    (λ k lt. omega (arith, small.charges_small k lt), λ k lt. omega (arith, small.stations_small k lt), λ k lt. omega (arith, small.credits_small k lt))
