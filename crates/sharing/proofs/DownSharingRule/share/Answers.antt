use Rattle.std.proofs.Common.{length, ap, arith}
use Rattle.sharing.specs.Rules.{down_at}
use Rattle.sharing.proofs.Laws.{filled}
use Rattle.sharing.proofs.DownSharingRule.share.Goals as goal

pub returns-clause-writes : goal.returns-clause-writes
returns-clause-writes c =
    let places = ap length c.copy_from_slice.ensures.after in
    filled (down_at c.args.pool c.args.units.now) _ _ c.args.column.now _ _ c.in_ok-total.ensures (omega arith)
    (λ k h. c.loop-share.invariant.0 k (omega arith))
