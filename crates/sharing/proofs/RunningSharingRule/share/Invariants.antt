use Rattle.std.proofs.Common.{◌≡◌, ℕ, ◌<◌, ◌≤◌, get_or, take, sum}
use Rattle.sharing.specs.Rules.{running_at, reached}
use Rattle.sharing.proofs.RunningSharingRule.share.Given as goal

abbrev pub invariant-loop-share : goal.invariant-loop-share
invariant-loop-share l =
    (l.seen ≡ sum (take l.share-index l.units))
    × (l.given ≡ reached l.pool l.units l.share-index)
    × ((k : ℕ) → k < l.share-index → get_or l.column k 0 ≡ running_at l.pool l.units k)
    × ((k : ℕ) → l.share-index ≤ k → get_or l.column k 0 ≡ get_or l.units k 0)
