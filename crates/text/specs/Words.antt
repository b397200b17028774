-- The words of a text, and the number that a word writes.
--   blank        a byte between words: a space, a tab, a line feed, a form feed or a carriage return
--   words        the words of a text: the longest stretches without a blank, in their order
--   value_from   the number that digits write after the digits of a number n
--   number_of    the number that a word writes, or why it writes none that fits 32 bits
--   fault_words  why a word is no number, in words
--   Next         what the next word of a text is, and what is left after it
use Rattle.std.specs.Prelude.{◌≡◌, ℕ, ◌+◌, ◌-◌, ◌*◌, ◌^◌, ◌<◌, Bool, true, false, cond, not, ◌||◌, List, [], ◌∷◌, length, Some, None, Ok, Err, codes, Option, Result, ◌==◌, nat_lt}
use Rattle.std.specs.Borrow.{Bor}
use Rattle.std.specs.Char.{is_ascii_whitespace, is_ascii_digit}
use Rattle.std.specs.List.{list_all}
use Rattle.text.specs.declared.WordFault.{WordFault}
use Rattle.text.specs.declared.WordFault.TheVariants.{NotANumber, TooLarge}

abbrev pub blank : ℕ → Bool
blank b = is_ascii_whitespace b

-- whether a text begins inside a word
abbrev pub opens : List ℕ → Bool
opens [] = false
opens (b ∷ bs) = not (blank b)

-- a byte before the words of what follows it: a part of the first word, or a word of its own
abbrev pub grow : Bool → ℕ → List (List ℕ) → List (List ℕ)
grow true b [] = (b ∷ []) ∷ []
grow true b (w ∷ ws) = (b ∷ w) ∷ ws
grow false b ws = (b ∷ []) ∷ ws

abbrev pub words : List ℕ → List (List ℕ)
words [] = []
words (b ∷ bs) = cond (blank b) (words bs) (grow (opens bs) b (words bs))

abbrev pub value_from : ℕ → List ℕ → ℕ
value_from n [] = n
value_from n (b ∷ bs) = value_from (10 * n + (b - 48)) bs

abbrev pub number_of : List ℕ → Result ℕ WordFault
number_of w = cond (length w == 0 || not (list_all is_ascii_digit w)) (Err NotANumber) (cond (nat_lt (value_from 0 w) (2 ^ 32)) (Ok (value_from 0 w)) (Err TooLarge))

abbrev pub fault_words : WordFault → List ℕ
fault_words NotANumber = codes "is not a whole number"
fault_words TooLarge = codes "is above 4294967295"

abbrev pub Next : Option (Bor (List ℕ)) → List ℕ → List ℕ → Type 0
Next None before after = (words before ≡ []) × (words after ≡ [])
Next (Some w) before after = (words before ≡ w.now ∷ words after) × (length after < length before)
