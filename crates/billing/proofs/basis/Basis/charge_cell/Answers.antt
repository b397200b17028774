use Rattle.std.proofs.Common.{sum, sym, refl, ap, ◌∙◌, arith}
use Rattle.billing.proofs.Adding.{front_length, units_are}
use Rattle.billing.proofs.Charging.{charged_nothing, charged_stranded, charged_shares}
use Rattle.billing.proofs.Pools.{not_refused, shares_are}
use Rattle.billing.proofs.basis.Basis.charge_cell.Goals as goal

pub pool-pool-requires : goal.pool-pool-requires
pool-pool-requires g c = c.args.self.sound.costs_fit c.args.cell.area c.args.cell.day c.args.cell.hour c.requires.proper

pub returns-then-pool-eq0-clause-charged : goal.returns-then-pool-eq0-clause-charged
returns-then-pool-eq0-clause-charged g c =
    let b = c.args.self in
    let m = g.R.SharingRule.meaning c.args.rule.now in
    let law = g.met.R.SharingRule.lawful c.args.rule.now in
    charged_nothing m law b c.args.charges.now c.requires.places c.args.cell _ (sym c.pool-pool.ensures ∙ c.if-pool-eq0.true)

pub returns-then-column_total-eq0-clause-charged : goal.returns-then-column_total-eq0-clause-charged
returns-then-column_total-eq0-clause-charged g c =
    let b = c.args.self in
    let m = g.R.SharingRule.meaning c.args.rule.now in
    let law = g.met.R.SharingRule.lawful c.args.rule.now in
    let fit = b.sound.costs_fit c.args.cell.area c.args.cell.day c.args.cell.hour c.requires.proper in
    let counted = units_are b.line.counted b.units.now c.args.cell _ _ _ b.sizes.customers refl c.from-customers.ensures b.sound.customers_few c.fill_units.ensures in
    charged_stranded m law b c.args.charges.now c.requires.places c.args.cell _ _ (c.from.ensures ∙ c.pool-pool.ensures) (omega (arith, c.pool-pool.ensures, c.from.ensures))
    (sym (ap sum counted) ∙ sym c.column_total.ensures.value ∙ c.if-column_total-eq0.true)

pub share_out-requires : goal.share_out-requires
share_out-requires g c =
    let b = c.args.self in
    let m = g.R.SharingRule.meaning c.args.rule.now in
    let law = g.met.R.SharingRule.lawful c.args.rule.now in
    let fit = b.sound.costs_fit c.args.cell.area c.args.cell.day c.args.cell.hour c.requires.proper in
    let counted = units_are b.line.counted b.units.now c.args.cell _ _ _ b.sizes.customers refl c.from-customers.ensures b.sound.customers_few c.fill_units.ensures in
    not_refused m law b.line b.sizes b.units.now b.costs.now b.sound _ c.args.cell _ _ counted (omega (arith, c.pool-pool.ensures)) (front_length _ _ b.sizes.customers refl c.from-customers.ensures b.sound.customers_few)

pub returns-clause-charged : goal.returns-clause-charged
returns-clause-charged g c =
    let b = c.args.self in
    let m = g.R.SharingRule.meaning c.args.rule.now in
    let law = g.met.R.SharingRule.lawful c.args.rule.now in
    let fit = b.sound.costs_fit c.args.cell.area c.args.cell.day c.args.cell.hour c.requires.proper in
    let counted = units_are b.line.counted b.units.now c.args.cell _ _ _ b.sizes.customers refl c.from-customers.ensures b.sound.customers_few c.fill_units.ensures in
    charged_shares m law b c.args.charges.now c.requires.places c.args.cell _ c.share_out.new.column _ (omega arith)
    (λ none. c.if-column_total-eq0.false (c.column_total.ensures.value ∙ ap sum counted ∙ none))
    (shares_are m law b.line b.sizes b.units.now b.costs.now b.sound _ c.args.cell _ _ counted c.pool-pool.ensures c.share_out.ensures.writes)
    c.add_column.ensures
