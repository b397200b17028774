use Rattle.std.proofs.Common.{◌≡◌, ◌*◌, ◌≤◌, take, sum_by}
use Rattle.sharing.proofs.columns.column_total.Given as goal

abbrev pub invariant-loop-figure : goal.invariant-loop-figure
invariant-loop-figure g l =
    (l.total ≡ sum_by g.F.Figure.amounts (take l.figure-index l.column))
    × (l.total ≤ g.F.Figure.most * l.figure-index)
    × (l.total ≤ 18446744073709551615 * l.figure-index)
