use Rattle.std.proofs.Common.{ap, ◌∙◌, rules}
use Rattle.book_rules.specs.Run.{opened}
use Rattle.book.specs.Shown.{open_book}
use Rattle.book.proofs.Outcomes.{same_error}
use Rattle.settling.specs.Settling.{leaves}
use Rattle.settling.proofs.Settles.{not_loaded, freeze_leaves}
use Rattle.settling.proofs.settle_file.Goals as goal

pub returns-in_err-load_through_a_pass : goal.returns-in_err-load_through_a_pass
returns-in_err-load_through_a_pass c =
    let start = c.in_ok-book.ensures in
    let after = c.load_through_a_pass.new in
    ap (λ r. leaves r after.units after.costs after.marks) (same_error c.from_residual-in_err-load_through_a_pass.result _ c.from_residual-in_err-load_through_a_pass.ensures.1)
    ∙ not_loaded c.args.sizes c.args.units.now c.args.costs.now c.args.marks.now c.open.new.marks c.args.bytes.now (open_book c.in_ok-book.book) start.answers start.clears
    (opened (open_book after.book) after.units after.costs after.marks) c.in_err-load_through_a_pass.field-0.0 c.in_err-load_through_a_pass.ensures

pub returns : goal.returns
returns c =
    let start = c.in_ok-book.ensures in
    let after = c.load_through_a_pass.new in
    freeze_leaves c.args.sizes c.args.units.now c.args.costs.now c.args.marks.now c.open.new.marks c.args.bytes.now (open_book c.in_ok-book.book) start.answers start.clears
    (open_book after.book) after.units after.costs after.marks c.freeze.result c.map_err.result _ (λ x e q. search rules) c.map_err.ensures.cases c.in_ok-load_through_a_pass.ensures (c.freeze.ensures after.units after.costs)
