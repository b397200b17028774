use Rattle.std.proofs.Common.{length, get_or, ap, ◌∙◌, arith, take_all}
use Rattle.std.proofs.lemmas.List.FromFn.{fill_by_all}
use Rattle.std.proofs.lemmas.List.{get_or-replicate}
use Rattle.lines.specs.Rows.{no_units}
use Rattle.bill_rules.specs.Bill.{units_of}
use Rattle.billing.proofs.Adding.{units_more, room_for}
use Rattle.billing.proofs.columns.fill_units.Goals as goal

pub loop-row-init : goal.loop-row-init
loop-row-init c k h =
    let e = c.fill.ensures.after (λ y e. e) in
    ap (λ xs. get_or xs k 0) e ∙ get_or-replicate _ k 0 0 (omega arith)

pub add_row-requires : goal.add_row-requires
add_row-requires c =
    let i = c.loop-row.row-index in
    let units = c.args.units.now in
    let who = (get_or units i no_units).customer in
    let known = c.requires.known i no_units c.loop-row-test.true in
    (omega arith, omega (arith, c.loop-row.invariant who (omega arith), room_for c.args.uses units c.args.cell i who c.loop-row-test.true, c.requires.small))

pub loop-row-preserved : goal.loop-row-preserved
loop-row-preserved c k h =
    let more = units_more c.args.uses c.args.units.now c.args.cell c.loop-row.row-index k c.loop-row-test.true in
    omega (arith, c.add_row.ensures k (omega arith), c.loop-row.invariant k (omega arith))

pub returns : goal.returns
returns c =
    fill_by_all (units_of c.args.uses c.args.units.now c.args.cell) c.loop-row.column (length c.args.column.now) 0 (omega arith)
    (λ k h. c.loop-row.invariant k (omega arith) ∙ ap (λ us. units_of c.args.uses us c.args.cell k) (take_all _ _ c.loop-row-test.false))
