-- What the last rows of the table show, whatever the pool and the units.
--   LeftShown  Down leaves fewer cents than there are customers, and Running leaves none
use Rattle.std.specs.Prelude.{◌≡◌, ℕ, ◌-◌, ◌<◌, List, ◌++◌, length, pos, sum}
use Rattle.sharing.specs.Rule.{division}
use Rattle.sharing.specs.Rules.{down, running}
use Rattle.share_report.specs.Report.{sum_text, left_text, foot_of}

abbrev pub LeftShown : Type 0
LeftShown = (pool : ℕ) (units : List ℕ) → 0 < sum units →
    (left : ℕ) × (left < length units)
    × (foot_of (division down pool units) (division running pool units) ≡ sum_text (sum units) (pool - left) pool ++ left_text (pos left) (pos 0))
