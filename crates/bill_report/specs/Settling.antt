-- The settled book of a unit file.
--   room      how many rows a table has: no row of a file takes fewer than 11 bytes
--   settled   the settled book of a file and its sizes, with tables of free rows
use Rattle.std.specs.Prelude.{ℕ, ◌/◌, List, length, replicate, Result}
use Rattle.tariff.specs.declared.refusal.Refusal.{Refusal}
use Rattle.tariff.specs.declared.rows.Sizes.{Sizes}
use Rattle.tariff.specs.Limits.{contributors}
use Rattle.lines.specs.Rows.{no_units, no_cost}
use Rattle.book_rules.specs.Run.{State}
use Rattle.settling.specs.Settling.{settlement, settled as settled_state}

abbrev pub room : List ℕ → ℕ
room bytes = length bytes / 11

abbrev pub settled : Sizes → List ℕ → Result State Refusal
settled z bytes = settled_state (settlement z (replicate (room bytes) no_units) (replicate (room bytes) no_cost) (replicate contributors 0) bytes)
