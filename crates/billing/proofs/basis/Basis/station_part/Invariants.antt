use Rattle.std.proofs.Common.{◌≡◌, ◌*◌, ◌^◌, [], ◌∷◌, length, None}
use Rattle.std.specs.List.{flat_map}
use Rattle.tariff.specs.Refusals.{first_of}
use Rattle.lines.specs.Cells.{cell, whole_days}
use Rattle.billing.specs.Parts.{CreditedOn, too_large_on}
use Rattle.billing.proofs.basis.Basis.station_part.Given as goal

abbrev pub invariant-loop-area : goal.invariant-loop-area
invariant-loop-area g l =
    (first_of (too_large_on (g.R.SharingRule.meaning l.fn.rule) l.self (flat_map (whole_days l.self.sizes) l.yielded)) ≡ None)
    × CreditedOn (g.R.SharingRule.meaning l.fn.rule) l.self (flat_map (whole_days l.self.sizes) l.yielded) (2 ^ 36 * length l.yielded) l.fn.stations l.stations l.fn.credits l.credits
    × (g.R.SharingRule.meaning l.rule ≡ g.R.SharingRule.meaning l.fn.rule)

abbrev pub invariant-loop-day : goal.invariant-loop-day
invariant-loop-day g l =
    (first_of (too_large_on (g.R.SharingRule.meaning l.fn.rule) l.self (flat_map (λ d. cell l.area d 0 ∷ []) l.yielded)) ≡ None)
    × CreditedOn (g.R.SharingRule.meaning l.fn.rule) l.self (flat_map (λ d. cell l.area d 0 ∷ []) l.yielded) (2 ^ 31 * length l.yielded) l.initial.stations l.stations l.initial.credits l.credits
    × (g.R.SharingRule.meaning l.rule ≡ g.R.SharingRule.meaning l.fn.rule)
