use Rattle.std.proofs.Common.{◌≡◌, string_bytes}
use Rattle.bill_report.specs.Report.{head_of}
use Rattle.bill_report.proofs.TextLaws.{tabled}
use Rattle.bill_report.proofs.report.table.Goals as goal

pub returns : goal.returns
returns c =
    let head : string_bytes c.in_ok-text.text ≡ head_of c.args.line c.args.rule = simp c.charge_head-head.ensures at c.in_ok-text.ensures.ok in
    tabled _ _ _ _ _ _ _ _ head c.in_ok-write_rows.ensures c.in_ok-write_sums.ensures c.in_ok-write_balance.ensures
