use Rattle.std.proofs.Common.{◌≡◌, ℕ, ◌-◌, List, ◌++◌, length, take, drop, replicate, min, ap, ◌∙◌, arith}
use Rattle.std.proofs.lemmas.List.{take_at, take_min, drop_at, drop-replicate, length-take-le}
use Rattle.share_report.proofs.excerpt.Excerpt.of.Goals as goal

-- a list that begins with a copy of the first k bytes of a word, or of all of them: how long the copy is, what
-- stands in front, and what stands behind
copy_long : (word copy : List ℕ) (n k : ℕ) → n ≡ min (length word) k → copy ≡ take n word → length copy ≡ n
copy_long word copy n k least same = ap length same ∙ length-take-le n word (omega arith)

front_kept : (word copy rest : List ℕ) (n k : ℕ) → n ≡ min (length word) k → copy ≡ take n word → take n (copy ++ rest) ≡ take k word
front_kept word copy rest n k least same =
    let least' : n ≡ min k (length word) = omega arith in
    take_at copy rest n (copy_long word copy n k least same) ∙ same ∙ ap (λ i. take i word) least' ∙ take_min k word

rest_blank : (word copy : List ℕ) (n k : ℕ) → n ≡ min (length word) k → copy ≡ take n word → drop n (copy ++ drop n (replicate k 0)) ≡ replicate (k - n) 0
rest_blank word copy n k least same = drop_at copy (drop n (replicate k 0)) n (copy_long word copy n k least same) ∙ drop-replicate n k 0

pub returns-clause-shown : goal.returns-clause-shown
returns-clause-shown c = front_kept c.args.word.now c.copy_from_slice.new.self _ c.min-length.result 40 c.min-length.ensures c.copy_from_slice.ensures.after

pub returns-clause-blank : goal.returns-clause-blank
returns-clause-blank c = rest_blank c.args.word.now c.copy_from_slice.new.self c.min-length.result 40 c.min-length.ensures c.copy_from_slice.ensures.after
