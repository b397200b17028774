-- The two rules of the package. A quotient by 0 is 0, so both give nothing where there are no units.
--   down      each customer gets pool × units ÷ all units, without the fraction
--   running   the figure for all customers up to this one, less that for those before it
--   reached   that figure: pool × the units of the first k customers ÷ all units, without the fraction
use Rattle.std.specs.Prelude.{ℕ, ◌+◌, ◌-◌, ◌*◌, ◌/◌, List, map, length, take, sum, slice_index}
use Rattle.std.specs.List.{range_with_len}
use Rattle.sharing.specs.Rule.{Meaning}

abbrev pub down_at : ℕ → List ℕ → ℕ → ℕ
down_at pool units k = pool * slice_index units k / sum units

abbrev pub down : Meaning
down pool units = map (down_at pool units) (range_with_len 0 (length units))

abbrev pub reached : ℕ → List ℕ → ℕ → ℕ
reached pool units k = pool * sum (take k units) / sum units

abbrev pub running_at : ℕ → List ℕ → ℕ → ℕ
running_at pool units k = reached pool units (k + 1) - reached pool units k

abbrev pub running : Meaning
running pool units = map (running_at pool units) (range_with_len 0 (length units))
