use Rattle.std.proofs.Common.{◌≡◌, [], vec_items, ap, ◌∙◌, arith}
use Rattle.std.proofs.lemmas.List.{with_items_is}
use Rattle.sharing.specs.Names.{meaning_of}
use Rattle.book_rules.specs.Machine.{book_bill}
use Rattle.book_rules.specs.Run.{Outcome}
use Rattle.book.specs.Shown.{frozen_book}
use Rattle.line_rows.proofs.Answering.{figured_same, billed_tells, refused_tells}
use Rattle.bill_report.specs.Report.{evenly}
use Rattle.bill_report.specs.Shown.{shown_figured}
use Rattle.bill_report.proofs.Billed.{same_bill}
use Rattle.bill_report.proofs.Handing.{refused}
use Rattle.bill_report.proofs.report.figures_for.Goals as goal

pub returns-in_err-remainders : goal.returns-in_err-remainders
returns-in_err-remainders c =
    let m = meaning_of c.args.rule in
    let s = c.args.settled.now in
    let k = s.sizes.customers in
    let err = c.in_err-remainders in
    refused (λ got. shown_figured got ≡ book_bill m c.args.line (frozen_book s.book) (vec_items s.units) (vec_items s.costs) (evenly k)) c.from_residual-in_err-remainders.result err.field-0.0
    c.from_residual-in_err-remainders.ensures.1
    (refused_tells _ err.field-0.0 (ap (λ (o : Outcome). o.answer) (err.ensures.answers err.ensures.lawful []))
    ∙ same_bill m c.args.line (frozen_book s.book) _ _ _ _ _ _ _ k c.deref.ensures.value c.deref-2.ensures.value
    (omega (arith, c.deref_mut.ensures.len, c.in_ok-charges.ensures.len)) (omega (arith, c.deref_mut-2.ensures.len, c.in_ok-stations.ensures.len)) (omega (arith, c.deref_mut-3.ensures.len, c.in_ok-credits.ensures.len)))

pub returns : goal.returns
returns c =
    let s = c.args.settled.now in
    let last = c.bill.new in
    let ok = c.in_ok-remainders in
    figured_same _ _ _ last.charges last.stations last.credits ok.remainders
    (with_items_is c.in_ok-charges.charges last.charges (c.bill.auto.charges ∙ c.deref_mut.ensures.len))
    (with_items_is c.in_ok-stations.stations last.stations (c.bill.auto.stations ∙ c.deref_mut-2.ensures.len))
    (with_items_is c.in_ok-credits.credits last.credits (c.bill.auto.credits ∙ c.deref_mut-3.ensures.len))
    ∙ billed_tells _ _ (ap (λ (o : Outcome). o.answer) (ok.ensures.answers ok.ensures.lawful []))
    ∙ same_bill (meaning_of c.args.rule) c.args.line (frozen_book s.book) _ _ _ _ _ _ _ s.sizes.customers c.deref.ensures.value c.deref-2.ensures.value
    (omega (arith, c.deref_mut.ensures.len, c.in_ok-charges.ensures.len)) (omega (arith, c.deref_mut-2.ensures.len, c.in_ok-stations.ensures.len)) (omega (arith, c.deref_mut-3.ensures.len, c.in_ok-credits.ensures.len))
