use Rattle.std.proofs.lemmas.Result.{err_from_is_err_and}
use Rattle.share_report.specs.Report.{report_of}
use Rattle.share_report.proofs.ShareLaws.{answer_kept}
use Rattle.share_report.proofs.report.report_owned.Goals as goal

pub returns-in_err-report_on : goal.returns-in_err-report_on
returns-in_err-report_on c =
    let p = err_from_is_err_and c.from_residual.result c.from_residual.ensures.1 in
    rw p.1 (answer_kept c.in_err-report_on.field-0.0 p.0 (report_of c.args.text.now) p.2 c.in_err-report_on.ensures)
