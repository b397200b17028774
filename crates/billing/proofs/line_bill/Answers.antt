use Rattle.std.proofs.Common.{sym, ap, ◌∙◌, subst, arith}
use Rattle.tariff.specs.declared.rows.Sizes.{Sizes}
use Rattle.lines.specs.Checked.{sizes_of}
use Rattle.bill_rules.specs.Bill.{told, column_after}
use Rattle.bill_rules.proofs.Balance.{close}
use Rattle.bill_rules.proofs.Agreement.{laws_of_billing}
use Rattle.billing.specs.Work.{line_figures, Sound}
use Rattle.billing.proofs.Refuses.{fitted, bill_is, told_balances}
use Rattle.billing.proofs.Soundness.{sound_from}
use Rattle.billing.proofs.line_bill.Goals as goal

pub returns-in_err-line-clause-closeness : goal.returns-in_err-line-clause-closeness
returns-in_err-line-clause-closeness g c l is = close _ (g.met.R.SharingRule.lawful c.args.rule.now) l (sizes_of c.args.sizes.now) c.args.units.now c.args.costs.now

pub returns-in_err-line-clause-laws : goal.returns-in_err-line-clause-laws
returns-in_err-line-clause-laws g c = laws_of_billing

pub invariant_of-basis : goal.invariant_of-basis
invariant_of-basis g c =
    let b = c.in_ok-line.ensures in
    record {
      sound = subst (λ z. Sound c.in_ok-line.line z c.args.units.now c.args.costs.now) (sym c.sizes-sizes.ensures) (sound_from c.args.line c.in_ok-line.line (sizes_of c.args.sizes.now) c.args.units.now c.args.costs.now b.is c.args.sizes.now.ok b.lawful);
    }

pub fill_columns-requires : goal.fill_columns-requires
fill_columns-requires g c =
    let m = g.R.SharingRule.meaning c.args.rule.now in
    let law = g.met.R.SharingRule.lawful c.args.rule.now in
    let l = c.in_ok-line.line in
    let n = c.args.line in
    let z = sizes_of c.args.sizes.now in
    let us = c.args.units.now in
    let cs = c.args.costs.now in
    let b = c.in_ok-line.ensures in
    let fit = fitted z _ b.fits in
    let all = ap (λ (z : Sizes). z.customers) c.sizes-sizes.ensures in
    (omega (arith, fit.0), omega (arith, fit.1), omega (arith, fit.2))

pub returns : goal.returns
returns g c =
    let m = g.R.SharingRule.meaning c.args.rule.now in
    let law = g.met.R.SharingRule.lawful c.args.rule.now in
    let l = c.in_ok-line.line in
    let n = c.args.line in
    let z = sizes_of c.args.sizes.now in
    let us = c.args.units.now in
    let cs = c.args.costs.now in
    let b = c.in_ok-line.ensures in
    let is = ap (λ z. line_figures m l z us cs) c.sizes-sizes.ensures ∙ sym (bill_is m n l z us cs _ b) in
    let answers = c.fill_columns.ensures.answers ∙ ap told is in
    let charges = c.fill_columns.ensures.charges ∙ ap (λ b. column_after b (λ f. f.charges) c.args.charges.now) is in
    let stations = c.fill_columns.ensures.stations ∙ ap (λ b. column_after b (λ f. f.stations) c.args.stations.now) is in
    let credits = c.fill_columns.ensures.credits ∙ ap (λ b. column_after b (λ f. f.credits) c.args.credits.now) is in
    record {
      answers = answers;
      charges = charges;
      stations = stations;
      credits = credits;
      balance = told_balances m law n z us cs _ c.fill_columns.result c.args.charges.now c.args.stations.now c.args.credits.now c.fill_columns.new.charges c.fill_columns.new.stations c.fill_columns.new.credits answers charges stations credits;
      closeness = λ l is. close m law l z us cs;
      means = c.fill_columns.ensures.means;
      lawful = law;
      laws = laws_of_billing;
    }
