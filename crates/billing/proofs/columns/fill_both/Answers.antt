use Rattle.std.proofs.Common.{length, get_or, ap, ◌∙◌, arith, take_all}
use Rattle.std.proofs.lemmas.List.FromFn.{fill_by_all}
use Rattle.std.proofs.lemmas.List.{get_or-replicate}
use Rattle.lines.specs.Rows.{no_units}
use Rattle.bill_rules.specs.Bill.{units_of}
use Rattle.billing.proofs.Adding.{units_more, room_for}
use Rattle.billing.proofs.columns.fill_both.Goals as goal

pub loop-row-init : goal.loop-row-init
loop-row-init c = (
  λ k h. ap (λ xs. get_or xs k 0) (c.fill.ensures.after (λ y e. e)) ∙ get_or-replicate _ k 0 0 (omega arith),
  λ k h. ap (λ xs. get_or xs k 0) (c.fill-2.ensures.after (λ y e. e)) ∙ get_or-replicate _ k 0 0 (omega arith),
)

pub add_row-requires : goal.add_row-requires
add_row-requires c =
    let i = c.loop-row.row-index in
    let units = c.args.units.now in
    let who = (get_or units i no_units).customer in
    let known = c.requires.known i no_units c.loop-row-test.true in
    (omega arith, omega (arith, c.loop-row.invariant.0 who (omega arith), room_for c.args.uses units c.args.cell i who c.loop-row-test.true, c.requires.small))

pub add_row-requires-in-loop-row : goal.add_row-requires-in-loop-row
add_row-requires-in-loop-row c =
    let i = c.loop-row.row-index in
    let units = c.args.units.now in
    let who = (get_or units i no_units).customer in
    let known = c.requires.other_known i no_units c.loop-row-test.true in
    (omega arith, omega (arith, c.loop-row.invariant.1 who (omega arith), room_for c.args.other_uses units c.args.cell i who c.loop-row-test.true, c.requires.small))

pub loop-row-preserved : goal.loop-row-preserved
loop-row-preserved c =
    let i = c.loop-row.row-index in
    let units = c.args.units.now in (
      λ k h. omega (arith, units_more c.args.uses units c.args.cell i k c.loop-row-test.true, c.add_row.ensures k (omega arith), c.loop-row.invariant.0 k (omega arith)),
      λ k h. omega (arith, units_more c.args.other_uses units c.args.cell i k c.loop-row-test.true, c.add_row-in-loop-row.ensures k (omega arith), c.loop-row.invariant.1 k (omega arith)),
    )

pub returns : goal.returns
returns c = record {
  first =
      fill_by_all (units_of c.args.uses c.args.units.now c.args.cell) c.loop-row.column (length c.args.column.now) 0 (omega arith)
      (λ k h. c.loop-row.invariant.0 k (omega arith) ∙ ap (λ us. units_of c.args.uses us c.args.cell k) (take_all _ _ c.loop-row-test.false));
  second =
      fill_by_all (units_of c.args.other_uses c.args.units.now c.args.cell) c.loop-row.other_column (length c.args.other_column.now) 0 (omega arith)
      (λ k h. c.loop-row.invariant.1 k (omega arith) ∙ ap (λ us. units_of c.args.other_uses us c.args.cell k) (take_all _ _ c.loop-row-test.false));
}
