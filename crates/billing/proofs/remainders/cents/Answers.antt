use Rattle.std.proofs.Common.{arith}
use Rattle.billing.proofs.Adding.{column_within}
use Rattle.billing.proofs.remainders.cents.Goals as goal

pub overflow_cast-result : goal.overflow_cast-result
overflow_cast-result c = omega (arith, c.column_total.ensures.value, column_within c.args.column.now c.requires.few c.requires.small)

pub returns-clause-bound : goal.returns-clause-bound
returns-clause-bound c = omega (arith, c.column_total.ensures.value, column_within c.args.column.now c.requires.few c.requires.small)
