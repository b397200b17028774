use Rattle.std.proofs.Common.{length, ap, arith}
use Rattle.sharing.specs.Rules.{running_at}
use Rattle.sharing.proofs.Laws.{filled, reached_mono}
use Rattle.sharing.proofs.RunningSharingRule.share.Goals as goal

pub overflow_sub-share : goal.overflow_sub-share
overflow_sub-share c = grind (arith, reached_mono c.args.pool c.args.units.now c.loop-share.share-index)

pub returns-clause-writes : goal.returns-clause-writes
returns-clause-writes c =
    let places = ap length c.copy_from_slice.ensures.after in
    filled (running_at c.args.pool c.args.units.now) _ _ c.args.column.now _ _ c.in_ok-total.ensures (omega arith)
    (λ k h. c.loop-share.invariant.2 k (omega arith))
