use Rattle.std.proofs.Common.{◌≡◌, ℕ, ◌+◌, ◌<◌, ◌≤◌, get_or}
use Rattle.billing.proofs.columns.add_column.Given as goal

abbrev pub invariant-loop-i : goal.invariant-loop-i
invariant-loop-i l =
    ((k : ℕ) → k < l.i → get_or l.onto k 0 ≡ get_or l.initial.onto k 0 + get_or l.column k 0)
    × ((k : ℕ) → l.i ≤ k → get_or l.onto k 0 ≡ get_or l.initial.onto k 0)
