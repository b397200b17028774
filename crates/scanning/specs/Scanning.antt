-- Reading a text from its front; `text` is what is left of it.
--   bind, or_else        go on with what was read, or stop; or try the next form
--   after_word           what follows a word, if the text begins with it
--   is_digit, on_digits  the number of the digits at the front, with what follows them
--   number_in            such a number, of one digit at least and not above a limit
--   field_in             a word and the number behind it
--   at_end               a value, if the text is at its end
use Rattle.std.specs.Prelude.{ℕ, ◌+◌, ◌-◌, ◌*◌, Bool, cond, ◌&&◌, List, [], ◌∷◌, Some, None, Option, ◌==◌, nat_le, nat_lt}

abbrev pub bind : {X Y : Type 0} → Option X → (X → Option Y) → Option Y
bind None f = None
bind (Some x) f = f x

abbrev pub or_else : {X Y : Type 0} → Option X → (X → Option Y) → Option Y → Option Y
or_else None f other = other
or_else (Some x) f other = f x

abbrev pub after_word : List ℕ → List ℕ → Option (List ℕ)
after_word [] text = Some text
after_word (w ∷ ws) [] = None
after_word (w ∷ ws) (b ∷ bs) = cond (b == w) (after_word ws bs) None

abbrev pub is_digit : ℕ → Bool
is_digit b = nat_le 48 b && nat_le b 57

abbrev pub on_digits : ℕ → ℕ → List ℕ → Option (ℕ × List ℕ)
on_digits most n [] = Some (n, [])
on_digits most n (b ∷ bs) = cond (is_digit b) (cond (nat_lt most (n * 10 + (b - 48))) None (on_digits most (n * 10 + (b - 48)) bs)) (Some (n, b ∷ bs))

abbrev pub number_in : ℕ → List ℕ → Option (ℕ × List ℕ)
number_in most [] = None
number_in most (b ∷ bs) = cond (is_digit b) (on_digits most 0 (b ∷ bs)) None

abbrev pub field_in : List ℕ → ℕ → List ℕ → Option (ℕ × List ℕ)
field_in word most text = bind (after_word word text) (number_in most)

abbrev pub at_end : {X : Type 0} → List ℕ → X → Option X
at_end [] x = Some x
at_end (b ∷ bs) x = None
