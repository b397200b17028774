use Rattle.std.proofs.Common.{◌≡◌, cond, get_or, Some, None, sum, sym, refl, ap, ◌∙◌, arith}
use Rattle.std.proofs.lemmas.Bool.{lt-ltb}
use Rattle.tariff.specs.declared.refusal.Refusal.TheVariants.{StationChargesTooLarge}
use Rattle.tariff.specs.Limits.{most_amount}
use Rattle.tariff.specs.Refusals.{answer}
use Rattle.lines.specs.declared.line.Kinds.TheVariants.{Only}
use Rattle.bill_rules.specs.Bill.{counted, recovered}
use Rattle.billing.proofs.Adding.{units_le, units_are, units_many}
use Rattle.billing.proofs.Crediting.{not_too_large, credited_nothing}
use Rattle.billing.proofs.Pools.{not_refused, share_le, many_counted}
use Rattle.billing.proofs.Recovers.{used_at, charge_is, recovered_is, charge_within, nothing_recovered}
use Rattle.billing.proofs.basis.Basis.station_day.Goals as goal

pub pool-pool-requires : goal.pool-pool-requires
pool-pool-requires g c = c.args.self.sound.costs_fit c.args.cell.area c.args.cell.day c.args.cell.hour c.requires.proper

pub returns-then-pool-eq0-clause-answers : goal.returns-then-pool-eq0-clause-answers
returns-then-pool-eq0-clause-answers g c =
    let b = c.args.self in
    let m = g.R.SharingRule.meaning c.args.rule.now in
    let none = nothing_recovered m b.line b.sizes b.units.now b.costs.now c.args.cell (sym c.pool-pool.ensures ∙ c.if-pool-eq0.true) in
    sym (ap (λ o. answer o tt) (not_too_large m b c.args.cell (omega arith)))

pub returns-then-pool-eq0-clause-credited : goal.returns-then-pool-eq0-clause-credited
returns-then-pool-eq0-clause-credited g c =
    let b = c.args.self in
    let m = g.R.SharingRule.meaning c.args.rule.now in
    let law = g.met.R.SharingRule.lawful c.args.rule.now in
    credited_nothing m b law c.args.cell _ c.args.stations.now c.args.credits.now c.requires.places.1 (sym c.pool-pool.ensures ∙ c.if-pool-eq0.true)

pub charge_stations-recovered-requires-clause-small : goal.charge_stations-recovered-requires-clause-small
charge_stations-recovered-requires-clause-small g c =
    let b = c.args.self in
    let m = g.R.SharingRule.meaning c.args.rule.now in
    let counted-is = units_are b.line.counted b.units.now c.args.cell _ _ _ b.sizes.customers refl c.from-customers.ensures b.sound.customers_few c.fill_both.ensures.first in
    let used-is = units_are (Only c.args.station) b.units.now c.args.cell _ _ _ b.sizes.customers refl c.from-customers.ensures b.sound.customers_few c.fill_both.ensures.second in
    let total-is : c.column_total.result ≡ sum (counted m b.line b.sizes b.units.now b.costs.now c.args.cell) = c.column_total.ensures.value ∙ ap sum counted-is in
    let fit = b.sound.costs_fit c.args.cell.area c.args.cell.day c.args.cell.hour c.requires.proper in (
      omega (arith, c.pool-pool.ensures),
      λ k h. omega (
        arith,
        used_at m b.line b.sizes b.units.now b.costs.now c.args.station c.requires.has c.args.cell c.pool-pool.result c.column_total.result c.fill_both.new.other_column c.pool-pool.ensures total-is used-is k (omega (arith, units_many (Only c.args.station) b.units.now c.args.cell c.fill_both.new.other_column b.sizes.customers used-is)),
        units_le (Only c.args.station) b.units.now c.args.cell k,
        b.sound.units_fit,
      ),
    )

pub returns-then-recovered-from-clause-answers : goal.returns-then-recovered-from-clause-answers
returns-then-recovered-from-clause-answers g c =
    let b = c.args.self in
    let m = g.R.SharingRule.meaning c.args.rule.now in
    let counted-is = units_are b.line.counted b.units.now c.args.cell _ _ _ b.sizes.customers refl c.from-customers.ensures b.sound.customers_few c.fill_both.ensures.first in
    let used-is = units_are (Only c.args.station) b.units.now c.args.cell _ _ _ b.sizes.customers refl c.from-customers.ensures b.sound.customers_few c.fill_both.ensures.second in
    let total-is : c.column_total.result ≡ sum (counted m b.line b.sizes b.units.now b.costs.now c.args.cell) = c.column_total.ensures.value ∙ ap sum counted-is in
    let R-is = c.charge_stations-recovered.ensures.recovered ∙ recovered_is m b.line b.sizes b.units.now b.costs.now c.args.station c.requires.has c.args.cell c.pool-pool.result c.column_total.result c.fill_both.new.other_column c.pool-pool.ensures total-is used-is in
    sym (ap (λ t. answer (cond t (Some (StationChargesTooLarge c.args.cell.area c.args.cell.day)) None) tt) (lt-ltb most_amount (recovered m b.line b.sizes b.units.now b.costs.now c.args.cell) (omega (arith, R-is))))

pub share_out-requires : goal.share_out-requires
share_out-requires g c =
    let b = c.args.self in
    let m = g.R.SharingRule.meaning c.args.rule.now in
    let law = g.met.R.SharingRule.lawful c.args.rule.now in
    let counted-is = units_are b.line.counted b.units.now c.args.cell _ _ _ b.sizes.customers refl c.from-customers.ensures b.sound.customers_few c.fill_both.ensures.first in
    let used-is = units_are (Only c.args.station) b.units.now c.args.cell _ _ _ b.sizes.customers refl c.from-customers.ensures b.sound.customers_few c.fill_both.ensures.second in
    not_refused m law b.line b.sizes b.units.now b.costs.now b.sound _ c.args.cell _ _ counted-is (omega arith) (omega (arith, units_many (Only c.args.station) b.units.now c.args.cell c.fill_both.new.other_column b.sizes.customers used-is))

pub returns-clause-answers : goal.returns-clause-answers
returns-clause-answers g c =
    let b = c.args.self in
    let m = g.R.SharingRule.meaning c.args.rule.now in
    let counted-is = units_are b.line.counted b.units.now c.args.cell _ _ _ b.sizes.customers refl c.from-customers.ensures b.sound.customers_few c.fill_both.ensures.first in
    let used-is = units_are (Only c.args.station) b.units.now c.args.cell _ _ _ b.sizes.customers refl c.from-customers.ensures b.sound.customers_few c.fill_both.ensures.second in
    let total-is : c.column_total.result ≡ sum (counted m b.line b.sizes b.units.now b.costs.now c.args.cell) = c.column_total.ensures.value ∙ ap sum counted-is in
    let R-is = c.charge_stations-recovered.ensures.recovered ∙ recovered_is m b.line b.sizes b.units.now b.costs.now c.args.station c.requires.has c.args.cell c.pool-pool.result c.column_total.result c.fill_both.new.other_column c.pool-pool.ensures total-is used-is in
    sym (ap (λ o. answer o tt) (not_too_large m b c.args.cell (omega (arith, R-is))))

pub returns-clause-credited : goal.returns-clause-credited
returns-clause-credited g c =
    let b = c.args.self in
    let m = g.R.SharingRule.meaning c.args.rule.now in
    let law = g.met.R.SharingRule.lawful c.args.rule.now in
    let counted-is = units_are b.line.counted b.units.now c.args.cell _ _ _ b.sizes.customers refl c.from-customers.ensures b.sound.customers_few c.fill_both.ensures.first in
    let used-is = units_are (Only c.args.station) b.units.now c.args.cell _ _ _ b.sizes.customers refl c.from-customers.ensures b.sound.customers_few c.fill_both.ensures.second in
    let total-is : c.column_total.result ≡ sum (counted m b.line b.sizes b.units.now b.costs.now c.args.cell) = c.column_total.ensures.value ∙ ap sum counted-is in
    let R-is = c.charge_stations-recovered.ensures.recovered ∙ recovered_is m b.line b.sizes b.units.now b.costs.now c.args.station c.requires.has c.args.cell c.pool-pool.result c.column_total.result c.fill_both.new.other_column c.pool-pool.ensures total-is used-is in
    let charged = charge_is m b.line b.sizes b.units.now b.costs.now c.args.station c.requires.has c.args.cell c.pool-pool.result c.column_total.result c.fill_both.new.other_column c.pool-pool.ensures total-is used-is in
    let credits-are = c.share_out.ensures.writes ∙ ap (m c.charge_stations-recovered.result) counted-is ∙ ap (λ R. m R (counted m b.line b.sizes b.units.now b.costs.now c.args.cell)) R-is in
    record {
      stations_added = λ k h. omega (arith, c.charge_stations-recovered.ensures.charged k h, charged k (omega (arith, c.requires.places.0)));
      credits_added = λ k h. omega (arith, c.add_column.ensures k h, ap (λ xs. get_or xs k 0) credits-are);
      stations_rise = λ k h. omega (arith, c.charge_stations-recovered.ensures.charged k h, charged k (omega (arith, c.requires.places.0)), charge_within m b.line b.sizes b.units.now b.costs.now c.args.cell k (omega (arith, c.requires.places.0)), R-is);
      credits_rise = λ k h. omega (arith, c.add_column.ensures k h, ap (λ xs. get_or xs k 0) credits-are, share_le m law (recovered m b.line b.sizes b.units.now b.costs.now c.args.cell) (counted m b.line b.sizes b.units.now b.costs.now c.args.cell) k (omega (arith, c.requires.places.1, many_counted m law b.line b.sizes b.units.now b.costs.now b.sound c.args.cell)), R-is);
    }
