use Rattle.std.proofs.Common.{◌≡◌, ℕ, ◌<◌, false}
use Rattle.lines.specs.Checked.{sizes_of}
use Rattle.lines.specs.Rows.{cost_fault}
use Rattle.lines.proofs.sizes.BookSizes.check_costs.Given as goal

abbrev pub invariant-loop-row : goal.invariant-loop-row
invariant-loop-row l = (k : ℕ) → k < l.row → cost_fault (sizes_of l.self) l.costs k ≡ false
