use Rattle.std.proofs.Common.{◌^◌, ◌<◌, arith}
use lib.Signed.{mag}
use Rattle.std.proofs.lemmas.Fmt.{length_signed_le}
use Rattle.line_rows.proofs.text.I64Decimal.put.Goals as goal

-- 19 digits and a sign
pub returns-clause-short : goal.returns-clause-short
returns-clause-short c = let small : mag c.args.self < 2 ^ 63 = c.ranges.self.sfits in length_signed_le 19 c.args.self (omega arith) small
