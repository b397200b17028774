use Rattle.std.proofs.Common.{◌≡◌, ◌+◌, vec_items, vec_len}
use Rattle.text.specs.Words.{words}
use Rattle.share_report.specs.Numbers.{after, read_words, numbers_of}
use Rattle.share_report.proofs.numbers.read_numbers.Given as goal

abbrev pub invariant-loop-word : goal.invariant-loop-word
invariant-loop-word l =
    (goal.iterator-loop-word).can_next l.word-iterator
    × (goal.iterator-loop-word).is_finite l.word-iterator
    × (numbers_of l.text ≡ after (vec_items l.numbers) (read_words (vec_len l.numbers + 1) (words l.word-iterator.rest.now)))
