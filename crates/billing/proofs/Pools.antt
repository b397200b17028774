-- What a lawful rule gives of the pool of a cell, or of an area and day.
use Rattle.std.proofs.Common.{◌≡◌, ℕ, zero, suc, ◌+◌, ◌<◌, ◌≤◌, Bool, true, false, cond, ◌&&◌, eqb, List, map, length, get_or, None, sum_by, sum, refl, ap, ◌∙◌, inl, inr, arith}
use Rattle.std.specs.List.{range_with_len}
use Rattle.std.proofs.lemmas.List.FromFn.{length-map-range_with_len}
use Rattle.std.proofs.lemmas.List.{get_or-replicate}
use Rattle.std.proofs.lemmas.List.Sums.{sum_by-cons, sum-map}
use Rattle.std.proofs.lemmas.Bool.{cases_eq, cases_lt, eq-eqb, ne_eqb, cond-true, cond-false}
use Rattle.std.proofs.lemmas.Bool.Decides.{nat_tests}
use Rattle.tariff.specs.declared.rows.Sizes.{Sizes}
use Rattle.tariff.specs.declared.rows.UnitRow.{UnitRow}
use Rattle.tariff.specs.declared.rows.CostRow.{CostRow}
use Rattle.tariff.specs.Limits.{most_amount}
use Rattle.lines.specs.declared.cell.Cell.{Cell}
use Rattle.lines.specs.declared.line.Kinds.{Kinds}
use Rattle.lines.specs.declared.line.Line.{Line}
use Rattle.lines.specs.declared.line.Kinds.TheVariants.{Only}
use Rattle.lines.specs.Cells.{cell, in_area, at_time}
use Rattle.lines.specs.Totals.{belongs, unit_place, all_quantities, part, cost_line, cost_place, cost_amount, cost_in}
use Rattle.sharing.specs.Rule.{Meaning, Lawful, share_refusal}
use Rattle.sharing.proofs.Theorems.{laws_of_sharing}
use Rattle.bill_rules.specs.Bill.{unit_part, units_of, units_in, pool, counted, shares, share_of, stranded_of}
use Rattle.bill_rules.proofs.Sums.{sum_by_mono, sum_by_swap, sum_by_map, sum_by_eq, sum_by_zero}
use Rattle.billing.specs.Work.{Sound}

-- a quantity stands at one customer's place at most
none_past : (b : Bool) (i q a n : ℕ) → i < a → sum_by (λ k. cond (b && eqb i k) q 0) (range_with_len a n) ≡ 0
none_past b i q a zero lt = refl
none_past b i q a (suc n) lt =
    let e : cond (b && eqb i a) q 0 ≡ 0 = go b (ne_eqb i a (λ h. omega arith)) in
    omega (arith, sum_by-cons (λ k. cond (b && eqb i k) q 0) a (range_with_len (a + 1) n), none_past b i q (a + 1) n (omega arith))
  where
    go : (b : Bool) → eqb i a ≡ false → cond (b && eqb i a) q 0 ≡ 0
    go true h = ap (λ t. cond t q 0) h
    go false h = refl

cond_le : (b : Bool) (q : ℕ) → cond b q 0 ≤ q
cond_le true q = omega arith
cond_le false q = omega arith

cond_off : (b c : Bool) (q : ℕ) → c ≡ false → cond (b && c) q 0 ≡ 0
cond_off true c q h = ap (λ t. cond t q 0) h
cond_off false c q h = refl

one_at_most : (b : Bool) (i q a n : ℕ) → sum_by (λ k. cond (b && eqb i k) q 0) (range_with_len a n) ≤ q
one_at_most b i q a zero = omega arith
one_at_most b i q a (suc n) =
    let s = sum_by-cons (λ k. cond (b && eqb i k) q 0) a (range_with_len (a + 1) n) in
    elim (cases_eq i a) [
      | inl e ↦ omega (arith, cond_le (b && eqb i a) q, none_past b i q (a + 1) n (omega arith))
      | inr ne ↦ omega (arith, cond_off b (eqb i a) q (ne_eqb i a ne), one_at_most b i q (a + 1) n)
    ]

-- the units of all customers in a cell are some of all quantities
pub units_within : (uses : Kinds) (units : List UnitRow) (n : ℕ) (c : Cell) → sum (units_in uses units n c) ≤ all_quantities units
units_within uses units n c =
    let e = sum-map (units_of uses units c) (range_with_len 0 n) in
    let s = sum_by_swap (λ k u. unit_part uses c k u) (range_with_len 0 n) units in
    omega (arith, sum_by_mono (λ u. sum_by (λ k. unit_part uses c k u) (range_with_len 0 n)) (λ (u : UnitRow). u.quantity) (λ u. one_at_most (belongs uses c u.usage (unit_place u)) u.customer u.quantity 0 n) units)

and_le : (b a d h : Bool) (v : ℕ) → cond (b && (a && (d && h))) v 0 ≤ cond (b && (a && (d && true))) v 0
and_le true true true h v = cond_le h v
and_le true true false h v = omega arith
and_le true false d h v = omega arith
and_le false a d h v = omega arith

-- the costs of an hour are some of its day's
pub hour_within : (n : ℕ) (costs : List CostRow) (a d h : ℕ) → cost_in n costs (cell a d h) ≤ cost_in n costs (cell a d 0)
hour_within n costs a d h =
    sum_by_mono (part cost_line cost_place cost_amount (Only n) (cell a d h)) (part cost_line cost_place cost_amount (Only n) (cell a d 0))
    (λ (r : CostRow). and_le (eqb r.line n) (in_area a r.subzone) (at_time d r.day) (at_time h r.hour) r.amount) costs

-- a rule's shares of an empty pool, and where there are no units, are 0
pub empty_pool : (m : Meaning) → Lawful m → (units : List ℕ) (i : ℕ) → i < length units → get_or (m 0 units) i 0 ≡ 0
empty_pool m law units i lt = elim (cases_lt 0 (sum units)) [
  | inl some ↦ let le = laws_of_sharing.within m law 0 units i some lt in omega arith
  | inr none ↦ ap (λ xs. get_or xs i 0) (law.idle 0 units (omega arith)) ∙ get_or-replicate (length units) i 0 0 lt
]

-- no share is above its pool
pub share_le : (m : Meaning) → Lawful m → (C : ℕ) (units : List ℕ) (i : ℕ) → i < length units → get_or (m C units) i 0 ≤ C
share_le m law C units i lt = elim (cases_lt 0 (sum units)) [
  | inl some ↦ laws_of_sharing.within m law C units i some lt
  | inr none ↦ omega (arith, ap (λ xs. get_or xs i 0) (law.idle C units (omega arith)) ∙ get_or-replicate (length units) i 0 0 lt)
]

module _ (m : Meaning) (law : Lawful m) (l : Line) (z : Sizes) (units : List UnitRow) (costs : List CostRow) (sound : Sound l z units costs) where
  pub many_counted : (c : Cell) → length (counted m l z units costs c) ≡ z.customers
  many_counted c = length-map-range_with_len (units_of l.counted units c) 0 z.customers

  -- a pool within the limit meets no refusal
  pub not_refused : (C : ℕ) (c : Cell) (column : List ℕ) (n : ℕ) → column ≡ counted m l z units costs c → C ≤ most_amount → n ≡ z.customers → share_refusal C column n ≡ None
  not_refused C c column n is le places =
      let len = many_counted c in
      let most = units_within l.counted units z.customers c in
      let few = sound.customers_few in
      let fit = sound.units_fit in
      let long : length column ≡ z.customers = ap length is ∙ len in
      let sum_le : sum column ≤ most_amount = omega (arith, ap sum is) in
      grind (arith, nat_tests)

  -- what a rule writes for a pool by the counted units
  pub shares_are : (C : ℕ) (c : Cell) (column written : List ℕ) → column ≡ counted m l z units costs c → C ≡ pool m l z units costs c → written ≡ m C column → written ≡ shares m l z units costs c
  shares_are C c column written is pooled done = done ∙ ap (m C) is ∙ ap (λ C. m C (counted m l z units costs c)) pooled

  pub no_pool : (c : Cell) (k : ℕ) → k < z.customers → pool m l z units costs c ≡ 0 → share_of m l z units costs k c ≡ 0
  no_pool c k lt none = ap (λ C. get_or (m C (counted m l z units costs c)) k 0) none ∙ empty_pool m law (counted m l z units costs c) k (omega (arith, many_counted c))

  pub no_units_share : (c : Cell) (k : ℕ) → k < z.customers → sum (counted m l z units costs c) ≡ 0 → share_of m l z units costs k c ≡ 0
  no_units_share c k lt none =
      ap (λ xs. get_or xs k 0) (law.idle (pool m l z units costs c) (counted m l z units costs c) none)
      ∙ get_or-replicate (length (counted m l z units costs c)) k 0 0 (omega (arith, many_counted c))

  pub share_within : (c : Cell) (k : ℕ) → k < z.customers → share_of m l z units costs k c ≤ pool m l z units costs c
  share_within c k lt = share_le m law (pool m l z units costs c) (counted m l z units costs c) k (omega (arith, many_counted c))

  pub stranded_none : (c : Cell) → pool m l z units costs c ≡ 0 → stranded_of m l z units costs c ≡ 0
  stranded_none c none = go (eqb (sum (counted m l z units costs c)) 0)
    where
      go : (b : Bool) → cond b (pool m l z units costs c) 0 ≡ 0
      go true = none
      go false = refl

  pub stranded_all : (c : Cell) → sum (counted m l z units costs c) ≡ 0 → stranded_of m l z units costs c ≡ pool m l z units costs c
  stranded_all c none = cond-true (eqb (sum (counted m l z units costs c)) 0) (pool m l z units costs c) 0 (eq-eqb _ 0 none)

  pub stranded_shared : (c : Cell) → (sum (counted m l z units costs c) ≡ 0 → ⊥) → stranded_of m l z units costs c ≡ 0
  stranded_shared c some = cond-false (eqb (sum (counted m l z units costs c)) 0) (pool m l z units costs c) 0 (ne_eqb _ 0 some)

  -- a day without costs charges nothing, and strands nothing
  pub idle_day : (a d k : ℕ) (hs : List ℕ) → k < z.customers → pool m l z units costs (cell a d 0) ≡ 0 → sum_by (share_of m l z units costs k) (map (cell a d) hs) ≡ 0
  idle_day a d k hs lt none =
      sum_by_map (share_of m l z units costs k) (cell a d) hs
      ∙ sum_by_eq (λ h. share_of m l z units costs k (cell a d h)) (λ _. 0) hs (λ h. no_pool (cell a d h) k lt (omega (arith, hour_within l.number costs a d h)))
      ∙ sum_by_zero hs

  pub idle_stranded : (a d : ℕ) (hs : List ℕ) → pool m l z units costs (cell a d 0) ≡ 0 → sum_by (stranded_of m l z units costs) (map (cell a d) hs) ≡ 0
  idle_stranded a d hs none =
      sum_by_map (stranded_of m l z units costs) (cell a d) hs
      ∙ sum_by_eq (λ h. stranded_of m l z units costs (cell a d h)) (λ _. 0) hs (λ h. stranded_none (cell a d h) (omega (arith, hour_within l.number costs a d h)))
      ∙ sum_by_zero hs
