use Rattle.std.proofs.Common.{◌≡◌, ℕ, ◌<◌, ◌≤◌, get_or}
use Rattle.sharing.specs.Rules.{down_at}
use Rattle.sharing.proofs.DownSharingRule.share.Given as goal

abbrev pub invariant-loop-share : goal.invariant-loop-share
invariant-loop-share l =
    ((k : ℕ) → k < l.share-index → get_or l.column k 0 ≡ down_at l.pool l.units k)
    × ((k : ℕ) → l.share-index ≤ k → get_or l.column k 0 ≡ get_or l.units k 0)
