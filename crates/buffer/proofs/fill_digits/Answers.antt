use Rattle.std.proofs.Common.{◌≡◌, ◌-◌, length, arith}
use native.Mathlib.Nat.{one-le-pow}
use Rattle.buffer.proofs.Places.{decimal_from_places, length_decimal_le_twenty}
use Rattle.buffer.proofs.fill_digits.Goals as goal

pub power_of_ten-requires : goal.power_of_ten-requires
power_of_ten-requires c = omega (arith, length_decimal_le_twenty c.args.number (omega arith))

pub nonzero_div-digit : goal.nonzero_div-digit
nonzero_div-digit c = omega (arith, one-le-pow (length c.args.part.now - 1 - c.loop-i.i) 10 (omega arith))

pub returns : goal.returns
returns c =
    let end : c.loop-i.i ≡ length c.args.part.now = omega arith in
    decimal_from_places c.loop-i.part c.args.number (length c.args.part.now) (omega arith) (omega arith) c.requires
    (λ k h. c.loop-i.invariant k (omega arith))
