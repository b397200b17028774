-- Each place stands in just one cell of a line.
use Rattle.std.proofs.Common.{◌≡◌, ℕ, zero, suc, ◌+◌, ◌<◌, ◌≤◌, Bool, true, false, cond, ◌&&◌, eqb, List, map, sum_by, sym, refl, ap, ◌∙◌, inl, inr, arith}
use Rattle.std.specs.List.{range_with_len, flat_map}
use Rattle.std.proofs.lemmas.List.Sums.{sum_by-cons}
use Rattle.std.proofs.lemmas.Bool.{cases_eq, eq-eqb, ne_eqb}
use Rattle.lines.specs.declared.cell.Cell.{Cell}
use Rattle.lines.specs.declared.cell.Place.{Place}
use Rattle.lines.specs.Cells.{cell, in_area, at_time, holds, axis}
use Rattle.bill_rules.proofs.Sums.{sum_by_eq, sum_by_map, sum_by_joined, sum_by_pull}

-- the areas, and the days and hours, are matched alike
abbrev fits : ℕ → ℕ → Bool
fits k x = at_time k x

-- a value of a field stands at one place of its axis
abbrev pub OneOf : List ℕ → ℕ → Type 0
OneOf ks x = (v : ℕ) → sum_by (λ k. cond (at_time k x) v 0) ks ≡ v

fits_at : (k x : ℕ) → 1 ≤ k → k ≡ x → fits k x ≡ true
fits_at k x lo e = let p : eqb k x ≡ true = eq-eqb k x e in let q : eqb k 0 ≡ false = ne_eqb k 0 (λ z. omega arith) in rw (p, q) refl

fits_off : (k x : ℕ) → 1 ≤ k → (k ≡ x → ⊥) → fits k x ≡ false
fits_off k x lo ne = let p : eqb k x ≡ false = ne_eqb k x ne in let q : eqb k 0 ≡ false = ne_eqb k 0 (λ z. omega arith) in rw (p, q) refl

none_of : (a n x v : ℕ) → 1 ≤ a → x < a → sum_by (λ k. cond (fits k x) v 0) (range_with_len a n) ≡ 0
none_of a zero x v lo h = refl
none_of a (suc n) x v lo h =
    let e : cond (fits a x) v 0 ≡ 0 = ap (λ b. cond b v 0) (fits_off a x lo (λ q. omega arith)) in
    omega (arith, sum_by-cons (λ k. cond (fits k x) v 0) a (range_with_len (a + 1) n), none_of (a + 1) n x v (omega arith) (omega arith))

one_of : (a n x v : ℕ) → 1 ≤ a → a ≤ x → x < a + n → sum_by (λ k. cond (fits k x) v 0) (range_with_len a n) ≡ v
one_of a zero x v lo h g = absurd (omega arith)
one_of a (suc n) x v lo h g = elim (cases_eq a x) [
  | inl e ↦
      let f : cond (fits a x) v 0 ≡ v = ap (λ b. cond b v 0) (fits_at a x lo e) in
      omega (arith, sum_by-cons (λ k. cond (fits k x) v 0) a (range_with_len (a + 1) n), none_of (a + 1) n x v (omega arith) (omega arith))
  | inr ne ↦
      let f : cond (fits a x) v 0 ≡ 0 = ap (λ b. cond b v 0) (fits_off a x lo ne) in
      let lt : a + 1 ≤ x = omega arith in
      omega (arith, sum_by-cons (λ k. cond (fits k x) v 0) a (range_with_len (a + 1) n), one_of (a + 1) n x v (omega arith) lt (omega arith))
]

pub on_axis : (b : Bool) (n x : ℕ) → (b ≡ true → (1 ≤ x) × (x ≤ n)) → OneOf (axis b n) x
on_axis true n x h v = let r = h refl in one_of 1 n x v (omega arith) r.0 (omega (arith, r.1))
on_axis false n x h v = omega arith

cond_and : (x y : Bool) (v : ℕ) → cond (x && y) v 0 ≡ cond x (cond y v 0) 0
cond_and true y v = refl
cond_and false y v = refl

abbrev place : ℕ → ℕ → ℕ → Place
place x y w = record { subzone = x; day = y; hour = w }

-- over the hours of one area and day
pub over_hours : (a d x y w v : ℕ) (hours : List ℕ) → OneOf hours w → sum_by (λ h. cond (holds (cell a d h) (place x y w)) v 0) hours ≡ cond (in_area a x && at_time d y) v 0
over_hours a d x y w v hours one =
    sum_by_eq (λ h. cond (holds (cell a d h) (place x y w)) v 0) (λ h. cond (fits a x) (cond (fits d y) (cond (fits h w) v 0) 0) 0) hours
    (λ h. cond_and (fits a x) (fits d y && fits h w) v ∙ ap (λ n. cond (fits a x) n 0) (cond_and (fits d y) (fits h w) v))
    ∙ sum_by_pull (fits a x) (λ h. cond (fits d y) (cond (fits h w) v 0) 0) hours
    ∙ ap (λ n. cond (fits a x) n 0) (sum_by_pull (fits d y) (λ h. cond (fits h w) v 0) hours ∙ ap (λ n. cond (fits d y) n 0) (one v))
    ∙ sym (cond_and (fits a x) (fits d y) v)

over_days : (a x y v : ℕ) (days : List ℕ) → OneOf days y → sum_by (λ d. cond (fits a x && fits d y) v 0) days ≡ cond (fits a x) v 0
over_days a x y v days one =
    sum_by_eq (λ d. cond (fits a x && fits d y) v 0) (λ d. cond (fits a x) (cond (fits d y) v 0) 0) days (λ d. cond_and (fits a x) (fits d y) v)
    ∙ sum_by_pull (fits a x) (λ d. cond (fits d y) v 0) days
    ∙ ap (λ n. cond (fits a x) n 0) (one v)

-- the cells of some areas, days and hours
abbrev pub grid : List ℕ → List ℕ → List ℕ → List Cell
grid areas days hours = flat_map (λ a. flat_map (λ d. map (cell a d) hours) days) areas

pub sum_by_grid : (f : Cell → ℕ) (areas days hours : List ℕ) → sum_by f (grid areas days hours) ≡ sum_by (λ a. sum_by (λ d. sum_by (λ h. f (cell a d h)) hours) days) areas
sum_by_grid f areas days hours =
    sum_by_joined f (λ a. flat_map (λ d. map (cell a d) hours) days) areas
    ∙ sum_by_eq (λ a. sum_by f (flat_map (λ d. map (cell a d) hours) days)) (λ a. sum_by (λ d. sum_by (λ h. f (cell a d h)) hours) days) areas
    (λ a. sum_by_joined f (λ d. map (cell a d) hours) days
    ∙ sum_by_eq (λ d. sum_by f (map (cell a d) hours)) (λ d. sum_by (λ h. f (cell a d h)) hours) days (λ d. sum_by_map f (cell a d) hours))

-- one cell of the grid holds the place
pub in_one : (x y w v : ℕ) (areas days hours : List ℕ) → OneOf areas x → OneOf days y → OneOf hours w → sum_by (λ c. cond (holds c (place x y w)) v 0) (grid areas days hours) ≡ v
in_one x y w v areas days hours one-a one-d one-h =
    sum_by_grid (λ c. cond (holds c (place x y w)) v 0) areas days hours
    ∙ sum_by_eq (λ a. sum_by (λ d. sum_by (λ h. cond (holds (cell a d h) (place x y w)) v 0) hours) days) (λ a. cond (fits a x) v 0) areas
    (λ a. sum_by_eq (λ d. sum_by (λ h. cond (holds (cell a d h) (place x y w)) v 0) hours) (λ d. cond (fits a x && fits d y) v 0) days (λ d. over_hours a d x y w v hours one-h) ∙ over_days a x y v days one-d)
    ∙ one-a v
