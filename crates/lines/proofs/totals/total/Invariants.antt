use Rattle.std.proofs.Common.{◌≡◌, ◌*◌, ◌^◌, ◌≤◌, take}
use Rattle.lines.specs.Totals.{total_in}
use Rattle.lines.proofs.totals.total.Given as goal

abbrev pub invariant-loop-row : goal.invariant-loop-row
invariant-loop-row g l =
    (l.sum ≡ total_in g.R.Row.kinded g.R.Row.placed g.R.Row.amounts l.kinds l.cell (take l.row-index l.rows))
    × (l.sum ≤ 2 ^ 32 * l.row-index)
