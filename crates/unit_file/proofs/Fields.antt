-- The fields of a record and their bytes: each gives the other back.
use Rattle.std.proofs.Common.{◌≡◌, ℕ, zero, suc, ◌+◌, ◌*◌, ◌/◌, ◌%◌, ◌<◌, ◌≤◌, true, false, List, [], ◌∷◌, ◌++◌, length, get_or, drop, sym, refl, ap, ◌∙◌, add-zero, arith, drop-cons}
use Rattle.std.proofs.lemmas.Bool.{eqb-true}
use Rattle.std.proofs.ByRecursion.{All-get_or}
use Rattle.std.proofs.lemmas.List.{drop_all}
use Rattle.std.proofs.lemmas.Bool.Decides.{nat_tests}
use Rattle.std.specs.List.{AllByRecursion}
use Rattle.unit_file.specs.Records.{Item, header, unit, cost, note, kind_of, fields_of, four_bytes}
use Rattle.unit_file.specs.Reading.{sizes_in, unit_in, cost_in, item_by, fits_kind, bad_kind}

-- numbers and their bytes
pub two_back : (n : ℕ) → n / 256 * 256 + n % 256 ≡ n
two_back n = omega arith

pub four_back : (n : ℕ) → n / 16777216 * 16777216 + (n / 65536 % 256 * 65536 + (n / 256 % 256 * 256 + n % 256)) ≡ n
four_back n = omega arith

pub high_byte : (a b : ℕ) → b < 256 → (a * 256 + b) / 256 ≡ a
high_byte a b lb = omega arith

pub low_byte : (a b : ℕ) → b < 256 → (a * 256 + b) % 256 ≡ b
low_byte a b lb = omega arith

pub four_bytes_of : (a b c d : ℕ) → b < 256 → c < 256 → d < 256 → four_bytes (a * 16777216 + (b * 65536 + (c * 256 + d))) ≡ a ∷ b ∷ c ∷ d ∷ []
four_bytes_of a b c d lb lc ld =
    let n : ℕ = a * 16777216 + (b * 65536 + (c * 256 + d)) in
    let h : n / 16777216 ≡ a = omega arith in
    let i : n / 65536 % 256 ≡ b = omega arith in
    let j : n / 256 % 256 ≡ c = omega arith in
    let k : n % 256 ≡ d = omega arith in rw (h, i, j, k)

-- what an item says comes back from its fields
pub item_back : (item : Item) → item_by (kind_of item) (fields_of item) ≡ item
item_back (header s) = rw (two_back s.customers)
item_back (unit r) = rw (two_back r.customer, four_back r.quantity)
item_back (cost r) = rw (four_back r.amount)
item_back (note bytes) = refl

-- a list by its elements
abbrev pub firsts : ℕ → ℕ → List ℕ → List ℕ
firsts k zero xs = []
firsts k (suc n) xs = get_or xs k 0 ∷ firsts (suc k) n xs

pub drop_firsts : (k n : ℕ) (xs : List ℕ) → k + n ≤ length xs → drop k xs ≡ firsts k n xs ++ drop (k + n) xs
drop_firsts k zero xs h = ap (λ (m : ℕ). drop m xs) (sym (add-zero k))
drop_firsts k (suc n) xs h =
    drop-cons xs k 0 (omega arith) ∙ ap (λ (ys : List ℕ). get_or xs k 0 ∷ ys) (drop_firsts (suc k) n xs (omega arith) ∙ ap (λ (m : ℕ). firsts (suc k) n xs ++ drop m xs) (omega arith))

append_nothing : (xs ys : List ℕ) → ys ≡ [] → xs ++ ys ≡ xs
append_nothing [] ys e = e
append_nothing (x ∷ xs) ys e = ap (λ (zs : List ℕ). x ∷ zs) (append_nothing xs ys e)

pub by_firsts : (n : ℕ) (xs : List ℕ) → length xs ≡ n → xs ≡ firsts 0 n xs
by_firsts n xs e = drop_firsts 0 n xs (omega arith) ∙ append_nothing (firsts 0 n xs) (drop (0 + n) xs) (drop_all (0 + n) xs (omega arith))

-- the bytes come back from what they say
header_fields : (f : List ℕ) → AllByRecursion (λ b. b < 256) f → length f ≡ 4 → fields_of (header (sizes_in f)) ≡ f
header_fields f small e =
    let b : get_or f 1 0 < 256 = All-get_or (λ b. b < 256) f 1 0 (omega arith) small in
    rw (high_byte (get_or f 0 0) (get_or f 1 0) b, low_byte (get_or f 0 0) (get_or f 1 0) b) (sym (by_firsts 4 f e))

unit_fields : (f : List ℕ) → AllByRecursion (λ b. b < 256) f → length f ≡ 10 → fields_of (unit (unit_in f)) ≡ f
unit_fields f small e =
    let b : get_or f 1 0 < 256 = All-get_or (λ b. b < 256) f 1 0 (omega arith) small in
    let p : get_or f 7 0 < 256 = All-get_or (λ b. b < 256) f 7 0 (omega arith) small in
    let q : get_or f 8 0 < 256 = All-get_or (λ b. b < 256) f 8 0 (omega arith) small in
    let r : get_or f 9 0 < 256 = All-get_or (λ b. b < 256) f 9 0 (omega arith) small in
    rw (high_byte (get_or f 0 0) (get_or f 1 0) b, low_byte (get_or f 0 0) (get_or f 1 0) b, four_bytes_of (get_or f 6 0) (get_or f 7 0) (get_or f 8 0) (get_or f 9 0) p q r) (sym (by_firsts 10 f e))

cost_fields : (f : List ℕ) → AllByRecursion (λ b. b < 256) f → length f ≡ 8 → fields_of (cost (cost_in f)) ≡ f
cost_fields f small e =
    let p : get_or f 5 0 < 256 = All-get_or (λ b. b < 256) f 5 0 (omega arith) small in
    let q : get_or f 6 0 < 256 = All-get_or (λ b. b < 256) f 6 0 (omega arith) small in
    let r : get_or f 7 0 < 256 = All-get_or (λ b. b < 256) f 7 0 (omega arith) small in
    rw (four_bytes_of (get_or f 4 0) (get_or f 5 0) (get_or f 6 0) (get_or f 7 0) p q r) (sym (by_firsts 8 f e))

abbrev Back : ℕ → List ℕ → Type 0
Back kind f = (fields_of (item_by kind f) ≡ f) × (kind_of (item_by kind f) ≡ kind)

pub fields_back : (kind : ℕ) (f : List ℕ) → AllByRecursion (λ b. b < 256) f → fits_kind kind (1 + length f) ≡ true → bad_kind kind f ≡ false → Back kind f
fields_back zero f small fits good = (header_fields f small (omega (arith, eqb-true (1 + length f) 5 fits)), refl)
fields_back (suc zero) f small fits good = (unit_fields f small (omega (arith, eqb-true (1 + length f) 11 fits)), refl)
fields_back (suc (suc zero)) f small fits good = (cost_fields f small (omega (arith, eqb-true (1 + length f) 9 fits)), refl)
fields_back (suc (suc (suc zero))) f small fits good = (refl, refl)
fields_back (suc (suc (suc (suc n)))) f small fits good = let z : ◌≡◌ {A = ℕ} 0 1 = grind (arith, nat_tests) in absurd (omega arith)
