use Rattle.std.proofs.Common.{◌≡◌, ℕ, ◌<◌, length, get_or, take}
use Rattle.bill_rules.specs.Bill.{units_of}
use Rattle.billing.proofs.columns.fill_both.Given as goal

abbrev pub invariant-loop-row : goal.invariant-loop-row
invariant-loop-row l =
    ((k : ℕ) → k < length l.column → get_or l.column k 0 ≡ units_of l.uses (take l.row-index l.units) l.cell k)
    × ((k : ℕ) → k < length l.other_column → get_or l.other_column k 0 ≡ units_of l.other_uses (take l.row-index l.units) l.cell k)
