-- A customer's units, one row on.
use Rattle.std.proofs.Common.{◌≡◌, ℕ, ◌+◌, ◌^◌, ◌<◌, ◌≤◌, Bool, true, false, cond, ◌&&◌, eqb, List, length, map, get_or, take, replicate, sum, sym, ap, subst, ◌∙◌, arith, length-take}
use Rattle.std.specs.List.{range_with_len}
use Rattle.std.proofs.lemmas.List.{get_or-take, get_or-replicate, length-replicate}
use Rattle.std.proofs.lemmas.List.FromFn.{fill_by_all, length-map-range_with_len}
use Rattle.std.proofs.lemmas.List.Sums.{sum_by_more, sum_by-take-le, sum_by-le}
use Rattle.std.proofs.lemmas.List.Elements.{All-from_get_or}
use Rattle.tariff.specs.declared.rows.UnitRow.{UnitRow}
use Rattle.tariff.specs.Limits.{most_customers}
use Rattle.lines.specs.declared.cell.Cell.{Cell}
use Rattle.lines.specs.declared.line.Kinds.{Kinds}
use Rattle.lines.specs.Totals.{belongs, unit_place, all_quantities}
use Rattle.lines.specs.Rows.{no_units}
use Rattle.bill_rules.specs.Bill.{unit_part, units_of, units_in}
use Rattle.bill_rules.proofs.Sums.{sum_by_mono}
use Rattle.billing.specs.Work.{Adds, Rises, Upto}

cond_le : (b : Bool) (q : ℕ) → cond b q 0 ≤ q
cond_le true q = omega arith
cond_le false q = omega arith

-- a customer's units are some of all quantities
pub units_le : (uses : Kinds) (units : List UnitRow) (c : Cell) (k : ℕ) → units_of uses units c k ≤ all_quantities units
units_le uses units c k =
    sum_by_mono (unit_part uses c k) (λ (u : UnitRow). u.quantity) (λ u. cond_le (belongs uses c u.usage (unit_place u) && eqb u.customer k) u.quantity) units

-- one row more, at any customer
pub units_more : (uses : Kinds) (units : List UnitRow) (c : Cell) (i k : ℕ) → i < length units → units_of uses (take (i + 1) units) c k ≡ units_of uses (take i units) c k + unit_part uses c k (get_or units i no_units)
units_more uses units c i k lt = sum_by_more (unit_part uses c k) units i no_units lt

-- there is room for the quantity of the next row
pub room_for : (uses : Kinds) (units : List UnitRow) (c : Cell) (i k : ℕ) → i < length units → units_of uses (take i units) c k + (get_or units i no_units).quantity ≤ all_quantities units
room_for uses units c i k lt =
    omega (arith, units_le uses (take i units) c k, sum_by_more (λ (u : UnitRow). u.quantity) units i no_units lt, sum_by-take-le (λ (u : UnitRow). u.quantity) units (i + 1))

-- the front of a column to work in has a place for each customer
pub front_length : (xs : List ℕ) (n m : ℕ) → length xs ≡ most_customers → n ≡ m → m ≤ most_customers → length (take n xs) ≡ m
front_length xs n m long is le = omega (arith, length-take n xs)

pub front_zeros : (n m : ℕ) → Upto (take n (replicate m 0)) 0
front_zeros n m k h =
    let zs : List ℕ = replicate m 0 in
    let lt = length-take n zs in
    let long : length zs ≡ m = length-replicate m 0 in
    let at : get_or (take n zs) k 0 ≡ get_or zs k 0 = get_or-take n zs k 0 (omega arith) in
    let none : get_or zs k 0 ≡ 0 = get_or-replicate m k 0 0 (omega arith) in
    omega arith

-- so it is filled with each customer's units
pub units_are : (uses : Kinds) (units : List UnitRow) (c : Cell) (xs column : List ℕ) (n m : ℕ) → length xs ≡ most_customers → n ≡ m → m ≤ most_customers → column ≡ units_in uses units (length (take n xs)) c → column ≡ units_in uses units m c
units_are uses units c xs column n m long is le filled = filled ∙ ap (λ n. units_in uses units n c) (front_length xs n m long is le)

pub units_many : (uses : Kinds) (units : List UnitRow) (c : Cell) (column : List ℕ) (m : ℕ) → column ≡ units_in uses units m c → length column ≡ m
units_many uses units c column m is = ap length is ∙ length-map-range_with_len (units_of uses units c) 0 m

-- a column of small figures has a small sum
pub column_within : (column : List ℕ) → length column ≤ most_customers → Upto column (2 ^ 48) → sum column ≤ 2 ^ 56
column_within column few small =
    omega (arith, sum_by-le (λ x. x) (2 ^ 48) column (All-from_get_or (λ x. x ≤ 2 ^ 48) column 0 small))

-- a column of no figures to which figures were added
pub filled : (before after : List ℕ) (n : ℕ) (f : ℕ → ℕ) → length after ≡ length before → length after ≡ n → Upto before 0 → Adds before after f → after ≡ map f (range_with_len 0 n)
filled before after n f same long none added =
    fill_by_all f after n 0 long (λ k h. omega (arith, none k (omega arith), added k (omega arith)))

pub raised : (before after column : List ℕ) (n most : ℕ) → column ≡ after → n ≤ most → length after ≡ length before → Upto before 0 → Rises before after n → Upto column most
raised before after column n most is le same none rises =
    subst (λ xs. Upto xs most) (sym is) (λ k h. omega (arith, none k (omega arith), rises k (omega arith)))
