-- Rows that agree on a line are billed alike.
use Rattle.std.proofs.Common.{◌≡◌, ℕ, ◌*◌, ◌/◌, ◌<◌, Bool, true, false, cond, not, ◌&&◌, ◌||◌, eqb, ltb, leb, List, [], ◌∷◌, ◌++◌, map, length, get_or, ℤ, pos, ◌-ℤ◌, is_some, Some, None, Ok, sum_by, sum, Option, sym, refl, ap, ◌∙◌, subst, ⊎_elim, arith}
use Rattle.std.specs.List.{range_with_len, flat_map, AllByRecursion}
use Rattle.std.proofs.ByRecursion.{All-weaker, All-append, All-from_get_or, All-get_or, All-map}
use Rattle.std.proofs.lemmas.List.FromFn.{length-range_with_len, get_or-range_with_len}
use Rattle.std.proofs.lemmas.Bool.{or_parts, or_cases, eqb-true, false≢true}
use Rattle.tariff.specs.declared.refusal.Refusal.{Refusal}
use Rattle.tariff.specs.declared.refusal.Refusal.TheVariants.{TableUnfit, FieldOutOfRange, UnlawfulRow, StationChargesTooLarge}
use Rattle.tariff.specs.declared.refusal.Table.TheVariants.{Unit as UnitTable, Cost as CostTable}
use Rattle.tariff.specs.declared.rows.Sizes.{Sizes}
use Rattle.tariff.specs.declared.rows.UnitRow.{UnitRow}
use Rattle.tariff.specs.declared.rows.CostRow.{CostRow}
use Rattle.tariff.specs.Limits.{hours_of_day, most_amount}
use Rattle.tariff.specs.Refusals.{first_of, answer}
use Rattle.tariff.proofs.Refused.{ok_tells}
use Rattle.lines.specs.declared.cell.Cell.{Cell}
use Rattle.lines.specs.declared.line.Kinds.{Kinds}
use Rattle.lines.specs.declared.line.Kinds.TheVariants.{Only}
use Rattle.lines.specs.declared.line.Line.{Line}
use Rattle.lines.specs.Sizes.{outside}
use Rattle.lines.specs.Lines.{counts, dated, timed, look_up, schedule, line_of}
use Rattle.lines.specs.Cells.{cell, in_area, at_time, holds, axis, areas, days, hours, cells, days_for, station_days}
use Rattle.lines.specs.Totals.{part, unit_place, cost_line, cost_place, cost_amount, cost_in, line_costs}
use Rattle.lines.specs.Rows.{unlawful_unit, unlawful_cost, unit_fault, cost_fault, unit_faults, cost_faults, no_units, no_cost}
use Rattle.lines.proofs.Firsts.{first_append, first_fails}
use Rattle.sharing.specs.Rule.{Meaning, Lawful}
use Rattle.bill_rules.specs.Bill.{Figures, unit_part, units_of, pool, counted, shares, share_of, short_of, stranded_of, station_units, station_of, recovered, credits_in, credit_of, over_of, column, figures, too_large_at, too_large, figures_for, too_large_for, Lengths, misfit, bill_refusal, bill}
use Rattle.bill_rules.specs.Laws.{Balances, LawfulRows, AgreeOn, Agree, LawsOfBilling}
use Rattle.bill_rules.proofs.Sums.{sum_by_zero, sum_by_eq, sum_by_same, sum_by_swap, sum_z_same}
use Rattle.bill_rules.proofs.Cells.{OneOf, on_axis, over_hours, grid}
use Rattle.bill_rules.proofs.Balance.{line_found, in_range, right_fields, hour_on_axis, balanced, close}

-- lists

all_split : {X : Type 0} (P : X → Type 0) (xs ys : List X) → AllByRecursion P (xs ++ ys) → AllByRecursion P xs × AllByRecursion P ys
all_split P [] ys all = (tt, all)
all_split P (x ∷ xs) ys (p, all) = let r = all_split P xs ys all in ((p, r.0), r.1)

all_of_map : {X Y : Type 0} (P : Y → Type 0) (f : X → Y) (xs : List X) → AllByRecursion P (map f xs) → AllByRecursion (λ x. P (f x)) xs
all_of_map P f [] all = tt
all_of_map P f (x ∷ xs) (p, all) = (p, all_of_map P f xs all)

all_of_joined : {X Y : Type 0} (P : Y → Type 0) (f : X → List Y) (xs : List X) → AllByRecursion P (flat_map f xs) → AllByRecursion (λ x. AllByRecursion P (f x)) xs
all_of_joined P f [] all = tt
all_of_joined P f (x ∷ xs) all = let r = all_split P (f x) (flat_map f xs) all in (r.0, all_of_joined P f xs r.1)

all_joined : {X Y : Type 0} (P : Y → Type 0) (f : X → List Y) (xs : List X) → AllByRecursion (λ x. AllByRecursion P (f x)) xs → AllByRecursion P (flat_map f xs)
all_joined P f [] all = tt
all_joined P f (x ∷ xs) (p, all) = All-append P (f x) (flat_map f xs) p (all_joined P f xs all)

pub all_counting : (P : ℕ → Type 0) (n : ℕ) → ((k : ℕ) → k < n → P k) → AllByRecursion P (range_with_len 0 n)
all_counting P n h =
    All-from_get_or P (range_with_len 0 n) 0 (λ i lt.
    let at : i < n = omega (arith, length-range_with_len 0 n) in
    subst P (sym (get_or-range_with_len 0 n i 0 at ∙ omega arith)) (h i at))

map_same : {X Y : Type 0} (f g : X → Y) (xs : List X) → AllByRecursion (λ x. f x ≡ g x) xs → map f xs ≡ map g xs
map_same f g [] all = refl
map_same f g (x ∷ xs) (e, all) = ap (λ y. y ∷ map f xs) e ∙ ap (λ l. g x ∷ l) (map_same f g xs all)

-- from the hours of an area and day to the day
by_days : (P Q : Cell → Type 0) (areas days hours : List ℕ) → ((a d : ℕ) → AllByRecursion (λ h. P (cell a d h)) hours → Q (cell a d 0)) → AllByRecursion P (grid areas days hours) → AllByRecursion Q (flat_map (λ a. map (λ d. cell a d 0) days) areas)
by_days P Q areas days hours go all =
    all_joined Q (λ a. map (λ d. cell a d 0) days) areas
    (All-weaker (λ a. AllByRecursion P (flat_map (λ d. map (cell a d) hours) days)) (λ a. AllByRecursion Q (map (λ d. cell a d 0) days))
    (λ a here. All-map Q (λ d. cell a d 0) days
    (All-weaker (λ d. AllByRecursion P (map (cell a d) hours)) (λ d. Q (cell a d 0)) (λ d at. go a d (all_of_map P (cell a d) hours at)) days
    (all_of_joined P (λ d. map (cell a d) hours) days here)))
    areas (all_of_joined P (λ a. flat_map (λ d. map (cell a d) hours) days) areas all))

-- a day's totals are the sums over its hours

and_true : (x y : Bool) → (x && y) ≡ (x && (y && true))
and_true true true = refl
and_true true false = refl
and_true false y = refl

and_last : (x y w : Bool) → ((x && y) && w) ≡ ((x && w) && y)
and_last true true true = refl
and_last true true false = refl
and_last true false true = refl
and_last true false false = refl
and_last false y w = refl

hours_part : (b : Bool) (a d x y w v : ℕ) (hours : List ℕ) → (b ≡ true → OneOf hours w) →
    sum_by (λ h. cond (b && holds (cell a d h) (record { subzone = x; day = y; hour = w })) v 0) hours ≡ cond (b && holds (cell a d 0) (record { subzone = x; day = y; hour = w })) v 0
hours_part false a d x y w v hours one = sum_by_zero hours
hours_part true a d x y w v hours one = over_hours a d x y w v hours (one refl) ∙ ap (λ t. cond t v 0) (and_true (in_area a x) (at_time d y))

day_cost : (n a d : ℕ) (costs : List CostRow) (hours : List ℕ) → AllByRecursion (λ r. eqb r.line n ≡ true → OneOf hours r.hour) costs → sum_by (λ h. cost_in n costs (cell a d h)) hours ≡ cost_in n costs (cell a d 0)
day_cost n a d costs hours all =
    sum_by_swap (λ h r. part cost_line cost_place cost_amount (Only n) (cell a d h) r) hours costs
    ∙ sum_by_same (λ r. sum_by (λ h. part cost_line cost_place cost_amount (Only n) (cell a d h) r) hours) (part cost_line cost_place cost_amount (Only n) (cell a d 0)) costs
    (All-weaker (λ r. eqb r.line n ≡ true → OneOf hours r.hour) (λ r. sum_by (λ h. part cost_line cost_place cost_amount (Only n) (cell a d h) r) hours ≡ part cost_line cost_place cost_amount (Only n) (cell a d 0) r)
    (λ r one. hours_part (eqb r.line n) a d r.subzone r.day r.hour r.amount hours one) costs all)

-- what a unit row adds, with the test of its place last
unit_part_is : (uses : Kinds) (c : Cell) (k : ℕ) (u : UnitRow) → unit_part uses c k u ≡ cond ((counts uses u.usage && eqb u.customer k) && holds c (unit_place u)) u.quantity 0
unit_part_is uses c k u = ap (λ t. cond t u.quantity 0) (and_last (counts uses u.usage) (holds c (unit_place u)) (eqb u.customer k))

day_unit : (uses : Kinds) (k a d : ℕ) (u : UnitRow) (hours : List ℕ) → OneOf hours u.hour → sum_by (λ h. unit_part uses (cell a d h) k u) hours ≡ unit_part uses (cell a d 0) k u
day_unit uses k a d u hours one =
    sum_by_eq (λ h. unit_part uses (cell a d h) k u) (λ h. cond ((counts uses u.usage && eqb u.customer k) && holds (cell a d h) (unit_place u)) u.quantity 0) hours (λ h. unit_part_is uses (cell a d h) k u)
    ∙ hours_part (counts uses u.usage && eqb u.customer k) a d u.subzone u.day u.hour u.quantity hours (λ _. one)
    ∙ sym (unit_part_is uses (cell a d 0) k u)

day_units : (uses : Kinds) (k a d : ℕ) (units : List UnitRow) (hours : List ℕ) → AllByRecursion (λ (u : UnitRow). OneOf hours u.hour) units → sum_by (λ h. units_of uses units (cell a d h) k) hours ≡ units_of uses units (cell a d 0) k
day_units uses k a d units hours all =
    sum_by_swap (λ h u. unit_part uses (cell a d h) k u) hours units
    ∙ sum_by_same (λ u. sum_by (λ h. unit_part uses (cell a d h) k u) hours) (unit_part uses (cell a d 0) k) units
    (All-weaker (λ (u : UnitRow). OneOf hours u.hour) (λ u. sum_by (λ h. unit_part uses (cell a d h) k u) hours ≡ unit_part uses (cell a d 0) k u)
    (λ u one. day_unit uses k a d u hours one) units all)

-- the rows of lawful tables have lawful fields

pub units_allowed : (z : Sizes) (units : List UnitRow) → first_of (unit_faults z units) ≡ None → AllByRecursion (λ u. unlawful_unit z u ≡ false) units
units_allowed z units none =
    All-from_get_or (λ u. unlawful_unit z u ≡ false) units no_units (λ i lt.
    (or_parts (unlawful_unit z (get_or units i no_units)) _ (first_fails (unit_fault z units) (λ i. UnlawfulRow UnitTable i) (length units) none i lt)).0)

pub costs_allowed : (z : Sizes) (costs : List CostRow) → first_of (cost_faults z costs) ≡ None → AllByRecursion (λ r. unlawful_cost z r ≡ false) costs
costs_allowed z costs none =
    All-from_get_or (λ r. unlawful_cost z r ≡ false) costs no_cost (λ i lt.
    (or_parts (unlawful_cost z (get_or costs i no_cost)) _ (first_fails (cost_fault z costs) (λ i. UnlawfulRow CostTable i) (length costs) none i lt)).0)

-- lawful rows have their hour on the line's axis
cost_hours : (l : Line) (n : ℕ) (z : Sizes) (costs : List CostRow) → line_of n ≡ Some l → AllByRecursion (λ r. unlawful_cost z r ≡ false) costs → AllByRecursion (λ r. eqb r.line n ≡ true → OneOf (hours l) r.hour) costs
cost_hours l n z costs is all =
    All-weaker (λ r. unlawful_cost z r ≡ false) (λ r. eqb r.line n ≡ true → OneOf (hours l) r.hour)
    (λ r law e. hour_on_axis l z r (right_fields l n z r is (eqb-true r.line n e) law)) costs all

unit_hours : (b : Bool) (z : Sizes) (units : List UnitRow) → AllByRecursion (λ u. unlawful_unit z u ≡ false) units → AllByRecursion (λ (u : UnitRow). OneOf (axis b hours_of_day) u.hour) units
unit_hours b z units all =
    All-weaker (λ u. unlawful_unit z u ≡ false) (λ (u : UnitRow). OneOf (axis b hours_of_day) u.hour)
    (λ u law.
    let p = or_parts (leb z.customers u.customer) _ law in
    let q = or_parts (outside 1 z.days u.day) _ p.1 in
    let w = or_parts (outside 1 hours_of_day u.hour) _ q.1 in
    on_axis b hours_of_day u.hour (λ _. in_range hours_of_day u.hour w.0))
    units all

-- what holds of each line of a table holds of one that is found
of_found : (P : Line → Type 0) (ls : List Line) (n : ℕ) (l : Line) → AllByRecursion P ls → look_up n ls ≡ Some l → P l
of_found P [] n l all e = let q : ◌≡◌ {A = ℕ} 0 1 = cc in absurd (omega arith)
of_found P (x ∷ ls) n l (p, all) e = go (eqb n x.number) e (of_found P ls n l all)
  where
    go : (b : Bool) → cond b (Some x) (look_up n ls) ≡ Some l → (look_up n ls ≡ Some l → P l) → P l
    go true h rest = let same : x ≡ l = cc in subst P same p
    go false h rest = rest h

-- only a line with days has a station part
pub daily : (n : ℕ) (l : Line) → line_of n ≡ Some l → (dated l.span || not (is_some l.station)) ≡ true
unfolding line_of
daily n l is = of_found (λ l. (dated l.span || not (is_some l.station)) ≡ true) schedule n l (refl, (refl, (refl, (refl, (refl, (refl, (refl, tt))))))) is

pub dated_station : (n : ℕ) (l : Line) (station : ℕ) → line_of n ≡ Some l → l.station ≡ Some station → dated l.span ≡ true
dated_station n l station is e =
    ⊎_elim (λ h. h) (λ h. absurd (false≢true (ap (λ o. not (is_some o)) (sym e) ∙ h))) (or_cases (dated l.span) (not (is_some l.station)) (daily n l is))

module _ (m : Meaning) (l : Line) (z : Sizes) (us us' : List UnitRow) (cs cs' : List CostRow) where
  -- a cell, or an area and day, that has the same pool and counted units
  record Same (c : Cell) : Type 0 where
    pools : pool m l z us cs c ≡ pool m l z us' cs' c
    units : (k : ℕ) → k < z.customers → units_of l.counted us c k ≡ units_of l.counted us' c k

  abbrev SameStation : Cell → Type 0
  SameStation d = (k : ℕ) → k < z.customers → station_units m l z us cs k d ≡ station_units m l z us' cs' k d

  same_counted : (c : Cell) → Same c → counted m l z us cs c ≡ counted m l z us' cs' c
  same_counted c s = map_same (units_of l.counted us c) (units_of l.counted us' c) (range_with_len 0 z.customers) (all_counting (λ k. units_of l.counted us c k ≡ units_of l.counted us' c k) z.customers s.units)

  same_shares : (c : Cell) → Same c → shares m l z us cs c ≡ shares m l z us' cs' c
  same_shares c s = ap (λ C. m C (counted m l z us cs c)) s.pools ∙ ap (m (pool m l z us' cs' c)) (same_counted c s)

  same_short : (c : Cell) → Same c → short_of m l z us cs c ≡ short_of m l z us' cs' c
  same_short c s =
      ap (λ ks. cond (eqb (sum ks) 0) (pos 0) (pos (pool m l z us cs c) -ℤ pos (sum (shares m l z us cs c)))) (same_counted c s)
      ∙ ap (λ C. cond (eqb (sum (counted m l z us' cs' c)) 0) (pos 0) (pos C -ℤ pos (sum (shares m l z us cs c)))) s.pools
      ∙ ap (λ xs. cond (eqb (sum (counted m l z us' cs' c)) 0) (pos 0) (pos (pool m l z us' cs' c) -ℤ pos (sum xs))) (same_shares c s)

  same_stranded : (c : Cell) → Same c → stranded_of m l z us cs c ≡ stranded_of m l z us' cs' c
  same_stranded c s =
      ap (λ ks. cond (eqb (sum ks) 0) (pool m l z us cs c) 0) (same_counted c s)
      ∙ ap (λ C. cond (eqb (sum (counted m l z us' cs' c)) 0) C 0) s.pools

  same_station : (d : Cell) → Same d → SameStation d → (k : ℕ) → k < z.customers → station_of m l z us cs k d ≡ station_of m l z us' cs' k d
  same_station d s t k lt =
      ap (λ C. C * station_units m l z us cs k d / sum (counted m l z us cs d)) s.pools
      ∙ ap (λ x. pool m l z us' cs' d * x / sum (counted m l z us cs d)) (t k lt)
      ∙ ap (λ ks. pool m l z us' cs' d * station_units m l z us' cs' k d / sum ks) (same_counted d s)

  same_recovered : (d : Cell) → Same d → SameStation d → recovered m l z us cs d ≡ recovered m l z us' cs' d
  same_recovered d s t = sum_by_same (λ k. station_of m l z us cs k d) (λ k. station_of m l z us' cs' k d) (range_with_len 0 z.customers) (all_counting (λ k. station_of m l z us cs k d ≡ station_of m l z us' cs' k d) z.customers (same_station d s t))

  same_credits : (d : Cell) → Same d → SameStation d → credits_in m l z us cs d ≡ credits_in m l z us' cs' d
  same_credits d s t = ap (λ R. m R (counted m l z us cs d)) (same_recovered d s t) ∙ ap (m (recovered m l z us' cs' d)) (same_counted d s)

  same_column : (f g : ℕ → Cell → ℕ) (ds : List Cell) → AllByRecursion (λ d. (k : ℕ) → k < z.customers → f k d ≡ g k d) ds → column m l z us cs f ds ≡ column m l z us' cs' g ds
  same_column f g ds all =
      map_same (λ k. sum_by (f k) ds) (λ k. sum_by (g k) ds) (range_with_len 0 z.customers) (all_counting (λ k. sum_by (f k) ds ≡ sum_by (g k) ds) z.customers
      (λ k lt. sum_by_same (f k) (g k) ds (All-weaker (λ d. (k : ℕ) → k < z.customers → f k d ≡ g k d) (λ d. f k d ≡ g k d) (λ d e. e k lt) ds all)))

  same_figures : AllByRecursion Same (cells l z) → AllByRecursion (λ d. Same d × SameStation d) (station_days l z) → figures m l z us cs ≡ figures m l z us' cs'
  same_figures at on =
      let ds = station_days l z in
      let a = same_column (share_of m l z us cs) (share_of m l z us' cs') (cells l z) (All-weaker Same (λ c. (k : ℕ) → k < z.customers → share_of m l z us cs k c ≡ share_of m l z us' cs' k c) (λ c s k lt. ap (λ xs. get_or xs k 0) (same_shares c s)) (cells l z) at) in
      let b = same_column (station_of m l z us cs) (station_of m l z us' cs') ds (All-weaker (λ d. Same d × SameStation d) (λ d. (k : ℕ) → k < z.customers → station_of m l z us cs k d ≡ station_of m l z us' cs' k d) (λ d s. same_station d s.0 s.1) ds on) in
      let c = same_column (credit_of m l z us cs) (credit_of m l z us' cs') ds (All-weaker (λ d. Same d × SameStation d) (λ d. (k : ℕ) → k < z.customers → credit_of m l z us cs k d ≡ credit_of m l z us' cs' k d) (λ d s k lt. ap (λ xs. get_or xs k 0) (same_credits d s.0 s.1)) ds on) in
      let d = sum_z_same (short_of m l z us cs) (short_of m l z us' cs') (cells l z) (All-weaker Same (λ c. short_of m l z us cs c ≡ short_of m l z us' cs' c) same_short (cells l z) at) in
      let e = sum_z_same (over_of m l z us cs) (over_of m l z us' cs') ds (All-weaker (λ d. Same d × SameStation d) (λ d. over_of m l z us cs d ≡ over_of m l z us' cs' d)
      (λ d s. ap (λ R. pos R -ℤ pos (sum (credits_in m l z us cs d))) (same_recovered d s.0 s.1) ∙ ap (λ xs. pos (recovered m l z us' cs' d) -ℤ pos (sum xs)) (same_credits d s.0 s.1)) ds on) in
      let f = sum_by_same (stranded_of m l z us cs) (stranded_of m l z us' cs') (cells l z) (All-weaker Same (λ c. stranded_of m l z us cs c ≡ stranded_of m l z us' cs' c) same_stranded (cells l z) at) in
      together a b c d e f
    where
      together : {a a' b b' c c' : List ℕ} {d d' e e' : ℤ} {f f' : ℕ} → a ≡ a' → b ≡ b' → c ≡ c' → d ≡ d' → e ≡ e' → f ≡ f' →
          ◌≡◌ {A = Figures} (record { charges = a; stations = b; credits = c; short = d; over = e; stranded = pos f }) (record { charges = a'; stations = b'; credits = c'; short = d'; over = e'; stranded = pos f' })
      together a b c d e f = cc

  same_too_large : AllByRecursion (λ d. Same d × SameStation d) (station_days l z) → too_large m l z us cs ≡ too_large m l z us' cs'
  same_too_large on =
      map_same (too_large_at m l z us cs) (too_large_at m l z us' cs') (station_days l z)
      (All-weaker (λ d. Same d × SameStation d) (λ (d : Cell). too_large_at m l z us cs d ≡ too_large_at m l z us' cs' d)
      (λ d s. let test : ℕ → Bool × Refusal = λ R. (ltb most_amount R, StationChargesTooLarge d.area d.day) in ap test (same_recovered d s.0 s.1)) (station_days l z) on)

  -- cells that agree make days that agree
  same_cells : AgreeOn l z us us' cs cs' → AllByRecursion Same (cells l z)
  same_cells agree = All-from_get_or Same (cells l z) (cell 0 0 0) (λ i lt. record { pools = agree.pools_alike i (cell 0 0 0) lt; units = agree.counted_alike i (cell 0 0 0) lt })

  same_days : (n : ℕ) → line_of n ≡ Some l → LawfulRows z us cs → LawfulRows z us' cs' → AllByRecursion Same (cells l z) → AllByRecursion Same (flat_map (λ a. map (λ d. cell a d 0) (days l z)) (areas l z))
  same_days n is lawful lawful' at = by_days Same Same (areas l z) (days l z) (hours l)
      (λ a d here. record {
        pools =
            let line = line_found n l is in
            let is' : line_of l.number ≡ Some l = ap line_of (sym line) ∙ is in
            sym (day_cost l.number a d cs (hours l) (cost_hours l l.number z cs is' (costs_allowed z cs lawful.costs_lawful)))
            ∙ sum_by_same (λ h. cost_in l.number cs (cell a d h)) (λ h. cost_in l.number cs' (cell a d h)) (hours l) (All-weaker (λ h. Same (cell a d h)) (λ h. cost_in l.number cs (cell a d h) ≡ cost_in l.number cs' (cell a d h)) (λ h s. s.pools) (hours l) here)
            ∙ day_cost l.number a d cs' (hours l) (cost_hours l l.number z cs' is' (costs_allowed z cs' lawful'.costs_lawful));
        units = λ k lt.
            sym (day_units l.counted k a d us (hours l) (unit_hours (timed l.span) z us (units_allowed z us lawful.units_lawful)))
            ∙ sum_by_same (λ h. units_of l.counted us (cell a d h) k) (λ h. units_of l.counted us' (cell a d h) k) (hours l) (All-weaker (λ h. Same (cell a d h)) (λ h. units_of l.counted us (cell a d h) k ≡ units_of l.counted us' (cell a d h) k) (λ h s. s.units k lt) (hours l) here)
            ∙ day_units l.counted k a d us' (hours l) (unit_hours (timed l.span) z us' (units_allowed z us' lawful'.units_lawful));
      })
      at

  station_days_alike : (n : ℕ) → line_of n ≡ Some l → LawfulRows z us cs → LawfulRows z us' cs' → AllByRecursion Same (cells l z) → (o : Option ℕ) → l.station ≡ o → AllByRecursion Same (days_for o l z)
  station_days_alike n is lawful lawful' at None e = tt
  station_days_alike n is lawful lawful' at (Some station) e =
      subst (λ b. AllByRecursion Same (flat_map (λ a. map (λ d. cell a d 0) (axis b z.days)) (areas l z))) (dated_station n l station is e) (same_days n is lawful lawful' at)

  same_on : (n : ℕ) → line_of n ≡ Some l → LawfulRows z us cs → LawfulRows z us' cs' → AgreeOn l z us us' cs cs' → AllByRecursion (λ d. Same d × SameStation d) (station_days l z)
  same_on n is lawful lawful' agree =
      let same = station_days_alike n is lawful lawful' (same_cells agree) l.station refl in
      All-from_get_or (λ d. Same d × SameStation d) (station_days l z) (cell 0 0 0) (λ i lt. (All-get_or Same (station_days l z) i (cell 0 0 0) lt same, agree.stations_alike i (cell 0 0 0) lt))

-- lawful rows leave the refusals of columns, line and R
past_rows : (z : Sizes) (us : List UnitRow) (cs : List CostRow) (ts : List (Bool × Refusal)) → LawfulRows z us cs → first_of (unit_faults z us ++ (cost_faults z cs ++ ts)) ≡ first_of ts
past_rows z us cs ts lawful =
    first_append (unit_faults z us) (cost_faults z cs ++ ts) lawful.units_lawful ∙ first_append (cost_faults z cs) ts lawful.costs_lawful

refusal_at : (m : Meaning) (n : ℕ) (z : Sizes) (us : List UnitRow) (cs : List CostRow) (p : Lengths) → LawfulRows z us cs →
    bill_refusal m n z us cs p ≡ cond (misfit z p) (Some TableUnfit) (cond (not (is_some (line_of n))) (Some FieldOutOfRange) (first_of (too_large_for m (line_of n) z us cs)))
refusal_at m n z us cs p lawful =
    ap (λ o. cond (misfit z p) (Some TableUnfit) (cond (not (is_some (line_of n))) (Some FieldOutOfRange) o)) (past_rows z us cs (too_large_for m (line_of n) z us cs) lawful)

pub alike_bills : (m : Meaning) (n : ℕ) (z : Sizes) (us us' : List UnitRow) (cs cs' : List CostRow) (p : Lengths) → LawfulRows z us cs → LawfulRows z us' cs' → Agree (line_of n) z us us' cs cs' → bill m n z us cs p ≡ bill m n z us' cs' p
alike_bills m n z us us' cs cs' p lawful lawful' agree =
    ap (λ o. answer o (figures_for m (line_of n) z us cs)) (refusal_at m n z us cs p lawful ∙ ap (λ o. cond (misfit z p) (Some TableUnfit) (cond (not (is_some (line_of n))) (Some FieldOutOfRange) o)) (ap first_of (large (line_of n) refl agree)) ∙ sym (refusal_at m n z us' cs' p lawful'))
    ∙ ap (answer (bill_refusal m n z us' cs' p)) (figured (line_of n) refl agree)
  where
    large : (o : Option Line) → line_of n ≡ o → Agree o z us us' cs cs' → too_large_for m o z us cs ≡ too_large_for m o z us' cs'
    large None is a = refl
    large (Some l) is a = same_too_large m l z us us' cs cs' (same_on m l z us us' cs cs' n is lawful lawful' a)

    figured : (o : Option Line) → line_of n ≡ o → Agree o z us us' cs cs' → figures_for m o z us cs ≡ figures_for m o z us' cs'
    figured None is a = refl
    figured (Some l) is a = same_figures m l z us us' cs cs' (same_cells m l z us us' cs cs' a) (same_on m l z us us' cs cs' n is lawful lawful' a)

-- an accepted bill is that of a line, over lawful rows

past_test : (b : Bool) (e : Refusal) (rest : Option Refusal) → cond b (Some e) rest ≡ None → (b ≡ false) × (rest ≡ None)
past_test true e rest h = let q : ◌≡◌ {A = ℕ} 0 1 = cc in absurd (omega arith)
past_test false e rest h = (refl, h)

front_none : (ts us : List (Bool × Refusal)) → first_of (ts ++ us) ≡ None → first_of ts ≡ None
front_none [] us h = refl
front_none (t ∷ ts) us h = go t.0 h (front_none ts us)
  where
    go : (b : Bool) → cond b (Some t.1) (first_of (ts ++ us)) ≡ None → (first_of (ts ++ us) ≡ None → first_of ts ≡ None) → cond b (Some t.1) (first_of ts) ≡ None
    go true h rest = h
    go false h rest = rest h

pub record Accepted (m : Meaning) (n : ℕ) (z : Sizes) (us : List UnitRow) (cs : List CostRow) (p : Lengths) : Type 0 where
  pub fits : misfit z p ≡ false
  pub known : is_some (line_of n) ≡ true
  pub lawful : LawfulRows z us cs
  pub small : first_of (too_large_for m (line_of n) z us cs) ≡ None

some_known : (o : Option Line) → not (is_some o) ≡ false → is_some o ≡ true
some_known None h = absurd (false≢true (sym h))
some_known (Some l) h = refl

pub accepted : (m : Meaning) (n : ℕ) (z : Sizes) (us : List UnitRow) (cs : List CostRow) (p : Lengths) → bill_refusal m n z us cs p ≡ None → Accepted m n z us cs p
accepted m n z us cs p none =
    let a = past_test (misfit z p) TableUnfit _ none in
    let b = past_test (not (is_some (line_of n))) FieldOutOfRange _ a.1 in
    let rest = cost_faults z cs ++ too_large_for m (line_of n) z us cs in
    let ul = front_none (unit_faults z us) rest b.1 in
    let after : first_of rest ≡ None = sym (first_append (unit_faults z us) rest ul) ∙ b.1 in
    let cl = front_none (cost_faults z cs) (too_large_for m (line_of n) z us cs) after in
    record {
      fits = a.0;
      known = some_known (line_of n) b.0;
      lawful = record { units_lawful = ul; costs_lawful = cl };
      small = sym (first_append (cost_faults z cs) (too_large_for m (line_of n) z us cs) cl) ∙ after;
    }

pub bill_balances : (m : Meaning) → Lawful m → (n : ℕ) (z : Sizes) (us : List UnitRow) (cs : List CostRow) (p : Lengths) (f : Figures) → bill m n z us cs p ≡ Ok f → Balances f (line_costs n cs)
bill_balances m law n z us cs p f h =
    let t = ok_tells (bill_refusal m n z us cs p) f (figures_for m (line_of n) z us cs) (sym h) in
    let a = accepted m n z us cs p t.0 in
    subst (λ f. Balances f (line_costs n cs)) (sym t.1) (at (line_of n) refl a.known (costs_allowed z cs a.lawful.costs_lawful))
  where
    at : (o : Option Line) → line_of n ≡ o → is_some o ≡ true → AllByRecursion (λ r. unlawful_cost z r ≡ false) cs → Balances (figures_for m o z us cs) (line_costs n cs)
    at None is known all = absurd (false≢true known)
    at (Some l) is known all = balanced m law l z us cs n is all

pub laws_of_billing : LawsOfBilling
laws_of_billing = record { balance = bill_balances; closeness = close; agreement = λ m law. alike_bills m }
