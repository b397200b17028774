use Rattle.std.proofs.Common.{◌≡◌, drop}
use Rattle.scanning.specs.Scanning.{after_word}
use Rattle.scanning.proofs.after_word.Given as goal

abbrev pub invariant-loop-i : goal.invariant-loop-i
invariant-loop-i l = after_word l.word l.text ≡ after_word (drop l.i l.word) (drop l.i l.text)
