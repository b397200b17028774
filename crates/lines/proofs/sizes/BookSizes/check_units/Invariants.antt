use Rattle.std.proofs.Common.{◌≡◌, ℕ, ◌*◌, ◌^◌, ◌<◌, ◌≤◌, false, take}
use Rattle.lines.specs.Checked.{sizes_of}
use Rattle.lines.specs.Totals.{all_quantities}
use Rattle.lines.specs.Rows.{unit_fault}
use Rattle.lines.proofs.sizes.BookSizes.check_units.Given as goal

abbrev pub invariant-loop-row : goal.invariant-loop-row
invariant-loop-row l =
    (l.sum ≡ all_quantities (take l.row l.units))
    × (l.sum ≤ 2 ^ 32 * l.row)
    × ((k : ℕ) → k < l.row → unit_fault (sizes_of l.self) l.units k ≡ false)
