-- The digits of a number by their places, and how many there are.
use Rattle.std.proofs.Common.{◌≡◌, ℕ, zero, suc, ◌+◌, ◌-◌, ◌*◌, ◌/◌, ◌%◌, ◌^◌, ◌<◌, ◌≤◌, List, [], ◌∷◌, ◌++◌, length, get_or, max, decimal, sym, ap, ◌∙◌, subst, inl, inr, add-one, arith}
use native.Mathlib.Nat.{div-div-eq-div-mul, pow-succ', pow-le-pow_right}
use Rattle.std.proofs.lemmas.Fmt.{decimal_by_steps, decimal_is_IsNumeral, decimal_nonempty, length-decimal-le}
use Rattle.std.proofs.lemmas.Int.Digits.{digits_value-lt}
use Rattle.std.proofs.lemmas.List.{ext_get_or, get_or_append_left, get_or_push, length_push}
use Rattle.std.proofs.lemmas.Bool.{cases_lt}

-- the digit of a number of so many digits at a place, counted from the front
abbrev pub digit_at : ℕ → ℕ → ℕ → ℕ
digit_at count n i = 48 + n / 10 ^ (count - 1 - i) % 10

abbrev ByPlaces : ℕ → List ℕ → Type 0
ByPlaces n ds = (i : ℕ) → i < length ds → get_or ds i 0 ≡ digit_at (length ds) n i

last_place : (n count i : ℕ) → count ≡ i + 1 → 48 + n % 10 ≡ digit_at count n i
last_place n count i e = let none : 0 ≡ count - 1 - i = omega arith in subst (λ (k : ℕ). 48 + n % 10 ≡ 48 + n / 10 ^ k % 10) none (omega arith)

earlier_place : (n count i : ℕ) → i < count → digit_at count (n / 10) i ≡ digit_at (count + 1) n i
earlier_place n count i h =
    ap (λ (m : ℕ). 48 + m % 10) (div-div-eq-div-mul n 10 (10 ^ (count - 1 - i)) ∙ ap (λ (m : ℕ). n / m) (sym (pow-succ' 10 (count - 1 - i)))
    ∙ ap (λ (k : ℕ). n / 10 ^ k) (omega arith))

one_digit : (n : ℕ) → n < 10 → ByPlaces n ((48 + n) ∷ [])
one_digit n small zero h = omega arith
one_digit n small (suc i) h = absurd (omega arith)

more_digits : (n : ℕ) (ds : List ℕ) → 10 ≤ n → ByPlaces (n / 10) ds → ByPlaces n (ds ++ ((48 + n % 10) ∷ []))
more_digits n ds big front i h =
    let size = length_push ds (48 + n % 10) in
    elim (cases_lt i (length ds)) [
      | inl l ↦ get_or_append_left ds ((48 + n % 10) ∷ []) 0 i l ∙ front i l ∙ earlier_place n (length ds) i l ∙ ap (λ (k : ℕ). digit_at k n i) (sym size)
      | inr g ↦ get_or_push ds (48 + n % 10) 0 i (omega arith) ∙ last_place n (length (ds ++ ((48 + n % 10) ∷ []))) i (omega arith)
    ]

-- bytes that are each the digit of their place are the number in decimal
pub decimal_from_places : (ds : List ℕ) (n count : ℕ) → n < 2 ^ 64 → length ds ≡ count → count ≡ length (decimal n) →
    ((i : ℕ) → i < count → get_or ds i 0 ≡ digit_at count n i) → ds ≡ decimal n
decimal_from_places ds n count small size same each =
    ext_get_or 0 ds (decimal n) (size ∙ same)
    (λ i h. each i (omega arith) ∙ ap (λ (k : ℕ). digit_at k n i) same ∙ sym (decimal_by_steps ByPlaces one_digit more_digits n small i (omega arith)))

-- a number from ten to some power on has more digits than that
pub length_decimal_gt : (k n : ℕ) → 10 ^ k ≤ n → n < 2 ^ 64 → k < length (decimal n)
length_decimal_gt k n big small =
    elim (cases_lt k (length (decimal n))) [
      | inl l ↦ l
      | inr g ↦ let reads = decimal_is_IsNumeral n small in absurd (omega (arith, digits_value-lt 10 (decimal n) reads.0.1, reads.1, pow-le-pow_right {n = 10} (omega arith) g))
    ]

-- the digits of a number, by the power of ten that it reaches; 0 has one
pub length_decimal_is : (k n : ℕ) → 10 ^ k ≤ max n 1 → max n 1 < 10 * 10 ^ k → n < 2 ^ 64 → k + 1 ≡ length (decimal n)
length_decimal_is k n low high small =
    elim (cases_lt 0 n) [
      | inl some ↦
          let top : 10 ^ (k + 1) ≡ 10 * 10 ^ k = ap (λ (m : ℕ). 10 ^ m) (add-one k) ∙ pow-succ' 10 k in
          omega (arith, length_decimal_gt k n (omega arith) small, length-decimal-le (k + 1) n (omega arith) (omega arith) small)
      | inr none ↦ elim (cases_lt 0 k) [
        | inl more ↦ absurd (omega (arith, pow-le-pow_right {n = 10} (omega arith) more))
        | inr zero' ↦ omega (arith, decimal_nonempty n small, length-decimal-le 1 n (omega arith) (omega arith) small)
      ]
    ]

pub length_decimal_le_twenty : (n : ℕ) → n < 2 ^ 64 → length (decimal n) ≤ 20
length_decimal_le_twenty n small = length-decimal-le 20 n (omega arith) (omega arith) small
