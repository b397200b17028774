use Rattle.std.proofs.Common.{◌≡◌, ℕ, Bool, true, List, vec_items, ap, ◌∙◌}
use Rattle.lines.specs.Totals.{line_costs}
use Rattle.bill_report.specs.Report.{table_of, by_bill}
use Rattle.bill_report.specs.Shown.{shown_figures}
use Rattle.bill_report.proofs.report.told.Goals as goal

pub returns : goal.returns
returns c =
    let n = c.args.line in
    let rule = c.args.rule in
    let costs = vec_items c.args.settled.now.costs in
    let f = shown_figures c.in_ok-figured.figured in
    let all : c.total-all.result ≡ line_costs n costs = c.total-all.ensures.sum ∙ ap (line_costs n) c.deref.ensures.value in
    let accepted : List ℕ → Bool × List ℕ = λ t. (true, t) in
    ap accepted (c.in_ok-table.ensures ∙ ap (λ k. table_of n rule k f) all) ∙ ap (by_bill n rule (line_costs n costs)) c.in_ok-figured.ensures
