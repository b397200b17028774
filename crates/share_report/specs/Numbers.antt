-- The numbers of a text.
--   BadWord     a word that is no number: its place among the words, from 1, its bytes, and why
--   after       numbers before the numbers of what follows
--   read_words  the numbers that words write, the first of them at place k, or the first bad word
--   numbers_of  the numbers that a text writes, or its first bad word
--   shown_bad   a bad word of the code, by what it holds
--   cut_short   the numbers, or a bad word cut to its first 40 bytes, which are all that is shown of it
use Rattle.std.specs.Prelude.{ℕ, ◌+◌, List, [], ◌∷◌, ◌++◌, take, Ok, Err, Result}
use Rattle.text.specs.declared.WordFault.{WordFault}
use Rattle.share_report.specs.declared.error.Misread.{Misread}
use Rattle.text.specs.Words.{words, number_of}

pub record BadWord : Type 0 where
  pub place : ℕ
  pub word : List ℕ
  pub fault : WordFault

abbrev pub after : List ℕ → Result (List ℕ) BadWord → Result (List ℕ) BadWord
after ns (Ok ms) = Ok (ns ++ ms)
after ns (Err e) = Err e

abbrev pub read_word : ℕ → List ℕ → Result ℕ WordFault → Result (List ℕ) BadWord → Result (List ℕ) BadWord
read_word k w (Ok n) rest = after (n ∷ []) rest
read_word k w (Err f) rest = Err (record { place = k; word = w; fault = f })

abbrev pub read_words : ℕ → List (List ℕ) → Result (List ℕ) BadWord
read_words k [] = Ok []
read_words k (w ∷ ws) = read_word k w (number_of w) (read_words (k + 1) ws)

abbrev pub numbers_of : List ℕ → Result (List ℕ) BadWord
numbers_of text = read_words 1 (words text)

abbrev pub shown_bad : Misread → BadWord
shown_bad m = record { place = m.place; word = m.word.now; fault = m.fault }

abbrev pub cut_short : Result (List ℕ) BadWord → Result (List ℕ) BadWord
cut_short (Ok ns) = Ok ns
cut_short (Err e) = Err (record { place = e.place; word = take 40 e.word; fault = e.fault })
