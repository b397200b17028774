use Rattle.std.proofs.Common.{◌≡◌, ap, ◌∙◌}
use Rattle.settling.specs.Settling.{settled as settled_state}
use Rattle.bill_report.specs.Settling.{settled}
use Rattle.bill_report.specs.Shown.{shown_settled}
use Rattle.bill_report.proofs.Handing.{refused}
use Rattle.bill_report.proofs.Settles.{same_start}
use Rattle.bill_report.proofs.settled.settle.Goals as goal

pub returns-in_err-book-clause-value : goal.returns-in_err-book-clause-value
returns-in_err-book-clause-value c =
    let us = c.deref_mut.ensures.value ∙ c.in_ok-units.ensures.items_if_clones_equal (λ y e. e) in
    let cs = c.deref_mut-2.ensures.value ∙ c.in_ok-costs.ensures.items_if_clones_equal (λ y e. e) in
    let ms = c.deref_mut-3.ensures.value ∙ c.in_ok-marks.ensures.items_if_clones_equal (λ y e. e) in
    refused (λ got. shown_settled got ≡ settled c.args.sizes c.args.bytes.now) c.from_residual-in_err-book.result c.in_err-book.field-0.0
    c.from_residual-in_err-book.ensures.1 (ap settled_state (c.in_err-book.ensures ∙ same_start c.args.sizes _ _ _ _ _ _ c.args.bytes.now us cs ms))
