use Rattle.std.proofs.Common.{arith}
use Rattle.buffer.proofs.Places.{length_decimal_is}
use Rattle.buffer.proofs.digit_count.Goals as goal

pub returns-clause-count : goal.returns-clause-count
returns-clause-count c = omega (arith, length_decimal_is c.ilog10.result c.args.number (omega arith) (omega arith) (omega arith))
