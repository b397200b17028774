use Rattle.std.proofs.Common.{◌≡◌, ◌^◌, ◌<◌, true, drop}
use Rattle.std.specs.Char.{is_ascii_digit}
use Rattle.std.specs.List.{list_all}
use Rattle.text.specs.Words.{value_from}
use Rattle.text.proofs.value_of.Given as goal

abbrev pub invariant-loop-digit : goal.invariant-loop-digit
invariant-loop-digit l = (l.value < 2 ^ 32) × (list_all is_ascii_digit (drop l.digit-index l.digits) ≡ true) × (value_from 0 l.digits ≡ value_from l.value (drop l.digit-index l.digits))
