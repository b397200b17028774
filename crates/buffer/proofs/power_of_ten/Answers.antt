use Rattle.std.proofs.Common.{rules}
use Rattle.buffer.proofs.Powers.{power_at}
use Rattle.buffer.proofs.power_of_ten.Goals as goal

pub returns : goal.returns
returns c = search (rules, power_at)
