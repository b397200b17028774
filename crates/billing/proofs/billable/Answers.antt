use Rattle.std.proofs.Common.{Err, rules, ap, ◌∙◌}
use Rattle.std.proofs.lemmas.Result.{err_from_is_err_and}
use Rattle.tariff.specs.declared.refusal.Refusal.TheVariants.{FieldOutOfRange}
use Rattle.tariff.specs.declared.rows.Sizes.{Sizes}
use Rattle.tariff.proofs.Refused.{ok_tells, err_tells}
use Rattle.lines.specs.Checked.{sizes_of}
use Rattle.lines.specs.Lines.{line_of}
use Rattle.lines.specs.Rows.{unit_faults, cost_faults}
use Rattle.tariff.specs.Refusals.{first_of}
use Rattle.billing.specs.Work.{lengths_of}
use Rattle.billing.proofs.Refuses.{misfit_is, line_told, found_unit, found_cost}
use Rattle.billing.proofs.billable.Goals as goal

pub returns-in_err-check_units : goal.returns-in_err-check_units
returns-in_err-check_units c =
    let z = sizes_of c.args.sizes.now in
    let fits = misfit_is z c.args.columns c.from.result c.ne.result (search rules) (c.from.ensures ∙ ap (λ (z : Sizes). z.customers) c.sizes.ensures) c.ne.ensures ∙ c.if-ne.false in
    let is = line_told (line_of c.args.line) c.in_ok-line.line FieldOutOfRange c.in_ok-line.ensures in
    let p = err_from_is_err_and c.from_residual-in_err-check_units.result c.from_residual-in_err-check_units.ensures.1 in
    rw (p.1 ∙ ap Err p.2) (λ m. found_unit c.args.line c.in_ok-line.line z c.args.units.now c.args.costs.now (lengths_of c.args.columns) is fits m c.in_err-check_units.field-0.0
    (err_tells (first_of (unit_faults z c.args.units.now)) _ tt c.in_err-check_units.ensures))

pub returns-in_err-check_costs : goal.returns-in_err-check_costs
returns-in_err-check_costs c =
    let z = sizes_of c.args.sizes.now in
    let fits = misfit_is z c.args.columns c.from.result c.ne.result (search rules) (c.from.ensures ∙ ap (λ (z : Sizes). z.customers) c.sizes.ensures) c.ne.ensures ∙ c.if-ne.false in
    let is = line_told (line_of c.args.line) c.in_ok-line.line FieldOutOfRange c.in_ok-line.ensures in
    let p = err_from_is_err_and c.from_residual-in_err-check_costs.result c.from_residual-in_err-check_costs.ensures.1 in
    rw (p.1 ∙ ap Err p.2) (λ m. found_cost c.args.line c.in_ok-line.line z c.args.units.now c.args.costs.now (lengths_of c.args.columns) is fits m c.in_err-check_costs.field-0.0
    (ok_tells (first_of (unit_faults z c.args.units.now)) _ tt c.in_ok-check_units.ensures).0
    (err_tells (first_of (cost_faults z c.args.costs.now)) _ tt c.in_err-check_costs.ensures))
