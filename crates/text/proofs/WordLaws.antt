-- The words of a text by their runs. Assumes nothing.
use Rattle.std.proofs.Common.{◌≡◌, ℕ, suc, ◌<◌, Bool, true, false, cond, not, eqb, ltb, ◌⊎◌, List, [], ◌∷◌, length, take, drop, Some, None, Option, Bor, sym, refl, ap, ◌∙◌, inl, inr, one-add, arith, length-drop}
use Rattle.std.specs.Bool.{then_some, ⊤}
use Rattle.std.specs.List.{prefix_len, position_or_len}
use Rattle.std.specs.Option.{unwrap_or}
use Rattle.std.specs.Iterator.{MakesProgress, item_count}
use Rattle.std.proofs.lemmas.List.{length-take-le}
use Rattle.std.proofs.lemmas.List.Sums.{prefix_len-le-length}
use Rattle.std.proofs.lemmas.Bool.{false≢true, not-true, eqb-true, eqb-false}
use Rattle.std.proofs.lemmas.Bool.Decides.{nat_tests}
use Rattle.text.specs.declared.Words.{Words}
use Rattle.text.specs.Words.{blank, opens, grow, words, Next}

-- how a run of one byte more is counted
more_run : (p : ℕ → Bool) (b : ℕ) (bs : List ℕ) → p b ≡ true → prefix_len p (b ∷ bs) ≡ suc (prefix_len p bs)
more_run p b bs e = rw e (one-add (prefix_len p bs))

no_run : (p : ℕ → Bool) (b : ℕ) (bs : List ℕ) → p b ≡ false → prefix_len p (b ∷ bs) ≡ 0
no_run p b bs e = rw e

-- a byte of a word
abbrev solid : ℕ → Bool
solid b = not (blank b)

-- blanks before a text change nothing
words_skip : (bs : List ℕ) → words bs ≡ words (drop (prefix_len blank bs) bs)
words_skip [] = refl
words_skip (b ∷ bs) = by (blank b) refl (words_skip bs)
  where
    by : (t : Bool) → blank b ≡ t → words bs ≡ words (drop (prefix_len blank bs) bs) → words (b ∷ bs) ≡ words (drop (prefix_len blank (b ∷ bs)) (b ∷ bs))
    by true e ih = rw (more_run blank b bs e) (rw e ih)
    by false e ih = rw (no_run blank b bs e)

-- what stands after a run of blanks is nothing, or begins a word
after_blanks : (bs : List ℕ) → (drop (prefix_len blank bs) bs ≡ []) ⊎ (opens (drop (prefix_len blank bs) bs) ≡ true)
after_blanks [] = inl refl
after_blanks (b ∷ bs) = by (blank b) refl (after_blanks bs)
  where
    by : (t : Bool) → blank b ≡ t → (drop (prefix_len blank bs) bs ≡ []) ⊎ (opens (drop (prefix_len blank bs) bs) ≡ true) → (drop (prefix_len blank (b ∷ bs)) (b ∷ bs) ≡ []) ⊎ (opens (drop (prefix_len blank (b ∷ bs)) (b ∷ bs)) ≡ true)
    by true e ih = rw (more_run blank b bs e) ih
    by false e ih = rw (no_run blank b bs e) (inr (ap not e))

closed_none : (bs : List ℕ) → opens bs ≡ false → position_or_len blank bs ≡ 0
closed_none [] e = refl
closed_none (b ∷ bs) e = no_run solid b bs e

-- a text that begins inside a word is that word and what follows it
words_front : (bs : List ℕ) → opens bs ≡ true → words bs ≡ take (position_or_len blank bs) bs ∷ words (drop (position_or_len blank bs) bs)
words_front [] e = absurd (false≢true e)
words_front (b ∷ bs) e = by (opens bs) refl (words_front bs)
  where
    by : (t : Bool) → opens bs ≡ t → (opens bs ≡ true → words bs ≡ take (position_or_len blank bs) bs ∷ words (drop (position_or_len blank bs) bs)) →
        words (b ∷ bs) ≡ take (position_or_len blank (b ∷ bs)) (b ∷ bs) ∷ words (drop (position_or_len blank (b ∷ bs)) (b ∷ bs))
    by true o ih = rw (more_run solid b bs e) (rw (not-true (blank b) e, o) (ap (grow true b) (ih o)))
    by false o ih = rw (more_run solid b bs e) (rw (closed_none bs o) (rw (not-true (blank b) e, o)))

-- a word begins with at least one byte
opens_some : (bs : List ℕ) → opens bs ≡ true → 0 < position_or_len blank bs
opens_some [] e = absurd (false≢true e)
opens_some (b ∷ bs) e = rw (more_run solid b bs e) (omega arith)

-- where a word ends, by what `position` finds
pub word_end : (bs : List ℕ) (found : Option ℕ) (n : ℕ) → found ≡ cond (ltb (position_or_len blank bs) (length bs)) (Some (position_or_len blank bs)) None → n ≡ unwrap_or found (length bs) → n ≡ position_or_len blank bs
word_end bs found n f e = let le = prefix_len-le-length solid bs in by (ltb (position_or_len blank bs) (length bs)) refl (e ∙ ap (λ o. unwrap_or o (length bs)) f)
  where
    by : (t : Bool) → ltb (position_or_len blank bs) (length bs) ≡ t → n ≡ unwrap_or (cond t (Some (position_or_len blank bs)) None) (length bs) → n ≡ position_or_len blank bs
    by true l e = e
    by false l e = let le = prefix_len-le-length solid bs in grind (arith, nat_tests)

-- the word after a run of blanks, or that there is none
pub next_word : (text found : List ℕ) (word rest : Bor (List ℕ)) (n : ℕ) (empty : Bool) → found ≡ drop (prefix_len blank text) text → n ≡ position_or_len blank found → word.now ≡ take n found → rest.now ≡ drop n found → empty ≡ eqb (length word.now) 0 →
    Next (then_some (not empty) word) text rest.now
next_word text found word rest n empty ef en ew er ee = by empty ee (elim (after_blanks text) [ inl e ↦ inl (ef ∙ e) | inr e ↦ inr (ap opens ef ∙ e) ])
  where
    found_words : words text ≡ words found
    found_words = words_skip text ∙ ap words (sym ef)

    size : length word.now ≡ n
    size = ap length ew ∙ length-take-le n found (rw en (prefix_len-le-length solid found))

    by : (t : Bool) → t ≡ eqb (length word.now) 0 → (found ≡ []) ⊎ (opens found ≡ true) → Next (then_some (not t) word) text rest.now
    by true e (inl none) = (found_words ∙ ap words none, ap words er ∙ ap (λ k. words (drop k found)) (sym size ∙ eqb-true _ 0 (sym e)) ∙ ap words none)
    by true e (inr some) = let z = eqb-true (length word.now) 0 (sym e) in absurd (omega (arith, opens_some found some, size, en))
    by false e (inl none) = let z : position_or_len blank found ≡ 0 = ap (position_or_len blank) none in absurd (omega (arith, eqb-false (length word.now) 0 (sym e), size, en))
    by false e (inr some) = (
      found_words ∙ words_front found some ∙ ap (λ k. take k found ∷ words (drop k found)) (sym en) ∙ ap (λ w. w ∷ words (drop n found)) (sym ew) ∙ ap (λ r. word.now ∷ words r) (sym er),
      omega (arith, opens_some found some, prefix_len-le-length solid found, ap length ef ∙ length-drop (prefix_len blank text) text, ap length er ∙ length-drop n found),
    )

-- after each word fewer are left
pub goes_on : (s t : Words) (r : Option (Bor (List ℕ))) → Next r s.rest.now t.rest.now → MakesProgress (λ _. ⊤) (item_count (λ s. words s.rest.now)) s r t
goes_on s t None e = record { on = λ _. tt; keeps = tt; rests = λ _. tt }
goes_on s t (Some x) e = record { on = λ _. (tt, tt, omega (arith, ap length e.0)); keeps = tt; rests = λ _. tt }
