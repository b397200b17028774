-- What the parts of a bill's calculation leave, worked out from a basis.
--   Charged       what the charges of some cells have added to their column, and to what is stranded
--   CreditedOn    what the station part of some areas and days has added to its two columns
--   too_large_on  the tests of R of some areas and days
--   figures_on    the figures of the line, or the first R that is too large
use Rattle.std.specs.Prelude.{◌≡◌, ℕ, ◌+◌, ◌≤◌, Bool, List, map, Result}
use Rattle.tariff.specs.declared.refusal.Refusal.{Refusal}
use Rattle.lines.specs.declared.cell.Cell.{Cell}
use Rattle.sharing.specs.Rule.{Meaning}
use Rattle.bill_rules.specs.Bill.{Figures, too_large_at}
use Rattle.billing.specs.declared.basis.Basis.{Basis}
use Rattle.billing.specs.Work.{Adds, Rises, charged_in, stranded_in, Credited, line_figures}

-- figures of at most `most` have been added for the cells, and at most that to what is stranded
pub record Charged (m : Meaning) (b : Basis) (cs : List Cell) (most stranded stranded' : ℕ) (charges charges' : List ℕ) : Type 0 where
  pub stranded_added : stranded' ≡ stranded + stranded_in m b.line b.sizes b.units.now b.costs.now cs
  pub charges_added : Adds charges charges' (charged_in m b.line b.sizes b.units.now b.costs.now cs)
  pub stranded_rises : stranded' ≤ stranded + most
  pub charges_rise : Rises charges charges' most

abbrev pub CreditedOn : Meaning → Basis → List Cell → ℕ → List ℕ → List ℕ → List ℕ → List ℕ → Type 0
CreditedOn m b ds most = Credited m b.line b.sizes b.units.now b.costs.now ds most

abbrev pub too_large_on : Meaning → Basis → List Cell → List (Bool × Refusal)
too_large_on m b ds = map (too_large_at m b.line b.sizes b.units.now b.costs.now) ds

abbrev pub figures_on : Meaning → Basis → Result Figures Refusal
figures_on m b = line_figures m b.line b.sizes b.units.now b.costs.now
