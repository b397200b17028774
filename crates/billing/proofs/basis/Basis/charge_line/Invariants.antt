use Rattle.std.proofs.Common.{◌≡◌, ◌*◌, ◌^◌, [], ◌∷◌, length}
use Rattle.std.specs.List.{flat_map}
use Rattle.lines.specs.Cells.{cell, hour_cells, day_cells}
use Rattle.billing.specs.Parts.{Charged}
use Rattle.billing.proofs.basis.Basis.charge_line.Given as goal

abbrev pub invariant-loop-area : goal.invariant-loop-area
invariant-loop-area g l =
    Charged (g.R.SharingRule.meaning l.fn.rule) l.self (flat_map (day_cells l.self.line l.self.sizes) l.yielded) (2 ^ 41 * length l.yielded) 0 l.stranded l.fn.charges l.charges
    × (g.R.SharingRule.meaning l.rule ≡ g.R.SharingRule.meaning l.fn.rule)

abbrev pub invariant-loop-day : goal.invariant-loop-day
invariant-loop-day g l =
    Charged (g.R.SharingRule.meaning l.fn.rule) l.self (flat_map (hour_cells l.self.line l.area) l.yielded) (2 ^ 36 * length l.yielded) l.initial.stranded l.stranded l.initial.charges l.charges
    × (g.R.SharingRule.meaning l.rule ≡ g.R.SharingRule.meaning l.fn.rule)

abbrev pub invariant-loop-hour : goal.invariant-loop-hour
invariant-loop-hour g l =
    Charged (g.R.SharingRule.meaning l.fn.rule) l.self (flat_map (λ h. cell l.area l.day h ∷ []) l.yielded) (2 ^ 31 * length l.yielded) l.initial.stranded l.stranded l.initial.charges l.charges
    × (g.R.SharingRule.meaning l.rule ≡ g.R.SharingRule.meaning l.fn.rule)
