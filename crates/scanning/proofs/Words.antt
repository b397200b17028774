-- Reading a word from the front of a text, place by place.
use Rattle.std.proofs.Common.{◌≡◌, ℕ, ◌+◌, ◌<◌, ◌≤◌, Bool, true, false, cond, eqb, List, [], ◌∷◌, length, get_or, drop, Some, None, Option, refl, arith}
use Rattle.scanning.specs.Scanning.{after_word}
use Rattle.std.proofs.lemmas.List.{drop_more, drop_all}

cond_none : (t : Bool) (o : Option (List ℕ)) → o ≡ None → cond t o None ≡ None
cond_none true o e = e
cond_none false o e = refl

pub too_short : (word text : List ℕ) → length text < length word → after_word word text ≡ None
too_short [] text h = absurd (omega arith)
too_short (w ∷ ws) [] h = refl
too_short (w ∷ ws) (b ∷ bs) h = cond_none (eqb b w) (after_word ws bs) (too_short ws bs (omega arith))

pub word_step : (word text : List ℕ) (i : ℕ) → i < length word → i < length text →
    after_word (drop i word) (drop i text) ≡ cond (eqb (get_or text i 0) (get_or word i 0)) (after_word (drop (i + 1) word) (drop (i + 1) text)) None
word_step word text i p q = rw (drop_more word i 0 p, drop_more text i 0 q)

pub word_end : (word text : List ℕ) (i : ℕ) → length word ≤ i → after_word (drop i word) (drop i text) ≡ Some (drop i text)
word_end word text i p = rw (drop_all i word p)
