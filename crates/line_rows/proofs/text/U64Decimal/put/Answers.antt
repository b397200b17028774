use Rattle.std.proofs.Common.{arith}
use Rattle.std.proofs.lemmas.Fmt.{length-decimal-le}
use Rattle.line_rows.proofs.text.U64Decimal.put.Goals as goal

pub returns-clause-short : goal.returns-clause-short
returns-clause-short c = let fits = c.ranges.self.fits in length-decimal-le 20 c.args.self (omega arith) (omega arith) (omega arith)
