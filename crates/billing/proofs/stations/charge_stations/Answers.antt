use Rattle.std.proofs.Common.{◌≡◌, ℕ, ◌+◌, length, get_or, set, sum_by, sym, ap, ◌∙◌, arith}
use Rattle.std.specs.List.{range_with_len}
use Rattle.std.proofs.lemmas.List.Edits.{fill_by_more}
use Rattle.std.proofs.lemmas.List.{get_or-set_other}
use Rattle.bill_rules.specs.Bill.{station_charge}
use Rattle.std.proofs.lemmas.List.{map-id}
use Rattle.std.proofs.lemmas.List.FromFn.{sum_by-map-range_with_len_more}
use Rattle.billing.proofs.stations.charge_stations.Goals as goal

-- one term more
count_next : (f : ℕ → ℕ) (n : ℕ) → sum_by f (range_with_len 0 (n + 1)) ≡ sum_by f (range_with_len 0 n) + f n
count_next f n =
    let plain = λ (k : ℕ). ap (sum_by f) (sym (map-id (range_with_len 0 k))) in
    plain (n + 1) ∙ sum_by-map-range_with_len_more f (λ (k : ℕ). k) 0 n n (omega arith) ∙ ap (λ k. k + f n) (sym (plain n))

pub station_charge-charge-requires : goal.station_charge-charge-requires
station_charge-charge-requires c = (c.requires.small.0, c.requires.small.1 c.loop-i.i c.loop-i-test.true)

pub overflow_add-stations : goal.overflow_add-stations
overflow_add-stations c =
    omega (arith, c.requires.room c.loop-i.i (omega (arith, c.requires.places)), c.loop-i.invariant.3 c.loop-i.i (omega arith), c.station_charge-charge.ensures.small)

pub loop-i-preserved : goal.loop-i-preserved
loop-i-preserved c =
    let before = c.args.stations.now in
    let charge : ℕ → ℕ = λ k. station_charge c.args.pool (get_or c.args.station_units.now k 0) c.args.all in
    let i = c.loop-i.i in
    let e : get_or c.loop-i.stations i 0 + c.station_charge-charge.result ≡ get_or before i 0 + charge i =
    omega (arith, c.loop-i.invariant.3 i (omega arith), c.station_charge-charge.ensures.value) in (
      omega (arith, c.loop-i.invariant.0, c.station_charge-charge.ensures.value, count_next charge i),
      omega (arith, c.loop-i.invariant.1, c.station_charge-charge.ensures.small),
      λ k h.
          ap (λ v. get_or (set c.loop-i.stations i v) k 0) e
          ∙ fill_by_more (λ k. get_or before k 0 + charge k) c.loop-i.stations i 0 (omega (arith, c.requires.places)) c.loop-i.invariant.2 k h,
      λ k h. get_or-set_other c.loop-i.stations i k _ 0 (omega arith) ∙ c.loop-i.invariant.3 k (omega arith),
    )

pub returns : goal.returns
returns c =
    let charge : ℕ → ℕ = λ k. station_charge c.args.pool (get_or c.args.station_units.now k 0) c.args.all in
    record {
      recovered = let e : c.loop-i.i ≡ length c.args.station_units.now = omega arith in c.loop-i.invariant.0 ∙ ap (λ n. sum_by charge (range_with_len 0 n)) e;
      charged = λ k h. c.loop-i.invariant.2 k (omega (arith, c.requires.places));
    }
