use Rattle.std.proofs.Common.{◌≡◌, ℕ, ◌+◌, ◌*◌, ◌^◌, ◌<◌, ◌≤◌, get_or, sum_by}
use Rattle.std.specs.List.{range_with_len}
use Rattle.bill_rules.specs.Bill.{station_charge}
use Rattle.billing.proofs.stations.charge_stations.Given as goal

abbrev pub invariant-loop-i : goal.invariant-loop-i
invariant-loop-i l =
    (l.recovered ≡ sum_by (λ k. station_charge l.pool (get_or l.station_units k 0) l.all) (range_with_len 0 l.i))
    × (l.recovered ≤ 2 ^ 62 * l.i)
    × ((k : ℕ) → k < l.i → get_or l.stations k 0 ≡ get_or l.initial.stations k 0 + station_charge l.pool (get_or l.station_units k 0) l.all)
    × ((k : ℕ) → l.i ≤ k → get_or l.stations k 0 ≡ get_or l.initial.stations k 0)
