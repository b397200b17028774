-- The number that a word writes, by std's words for digits. Assumes nothing.
use Rattle.std.proofs.Common.{◌≡◌, ℕ, ◌+◌, ◌-◌, ◌*◌, ◌^◌, ◌≤◌, Bool, true, false, cond, not, ◌||◌, eqb, leb, ltb, List, [], ◌∷◌, length, Some, None, Ok, Err, Option, Result, refl, arith}
use Rattle.std.specs.Char.{is_ascii_digit}
use Rattle.std.specs.List.{list_all}
use Rattle.std.specs.Option.{ok_or}
use Rattle.std.proofs.lemmas.Bool.{and_parts, leb-true}
use Rattle.std.proofs.lemmas.Bool.Decides.{nat_tests}
use Rattle.text.specs.declared.WordFault.{WordFault}
use Rattle.text.specs.declared.WordFault.TheVariants.{NotANumber, TooLarge}
use Rattle.text.specs.Words.{value_from, number_of}

-- a word that is empty, or has a byte that is no digit, writes no number
pub empty_word : (w : List ℕ) → length w ≡ 0 → Err NotANumber ≡ number_of w
empty_word w e = grind (arith, nat_tests)

pub no_digits : (w : List ℕ) → list_all is_ascii_digit w ≡ false → Err NotANumber ≡ number_of w
no_digits w e = by (eqb (length w) 0)
  where
    by : (t : Bool) → Err NotANumber ≡ cond (t || not (list_all is_ascii_digit w)) (Err NotANumber) (cond (ltb (value_from 0 w) (2 ^ 32)) (Ok (value_from 0 w)) (Err TooLarge))
    by true = refl
    by false = rw e refl

-- digits only add to the number before them
pub value_from_le : (n : ℕ) (bs : List ℕ) → n ≤ value_from n bs
value_from_le n [] = omega arith
value_from_le n (b ∷ bs) = omega (arith, value_from_le (10 * n + (b - 48)) bs)

-- what digits tell of their first byte
pub digits_front : (b : ℕ) (bs : List ℕ) → list_all is_ascii_digit (b ∷ bs) ≡ true → (48 ≤ b) × (b ≤ 57) × (list_all is_ascii_digit bs ≡ true)
digits_front b bs h =
    let two = and_parts (is_ascii_digit b) (list_all is_ascii_digit bs) h in
    let d = and_parts (leb 48 b) (leb b 57) two.0 in
    (leb-true 48 b d.0, leb-true b 57 d.1, two.1)

-- a word of digits writes their number, where it fits
pub valued : (w : List ℕ) (o : Option ℕ) (r : Result ℕ WordFault) → list_all is_ascii_digit w ≡ true → eqb (length w) 0 ≡ false → o ≡ cond (ltb (value_from 0 w) (2 ^ 32)) (Some (value_from 0 w)) None → r ≡ ok_or o TooLarge → r ≡ number_of w
valued w o r d some v e = by (ltb (value_from 0 w) (2 ^ 32)) refl v
  where
    by : (t : Bool) → ltb (value_from 0 w) (2 ^ 32) ≡ t → o ≡ cond t (Some (value_from 0 w)) None → r ≡ number_of w
    by true small v = rw (e, v, some, d, small)
    by false large v = rw (e, v, some, d, large)
