use Rattle.std.proofs.Common.{vec_items}
use Rattle.share_report.proofs.ShareLaws.{tabled}
use Rattle.share_report.proofs.report.divided.Goals as goal

pub returns : goal.returns
returns c =
    let d = c.in_ok-down.down in
    let r = c.in_ok-running.running in
    tabled c.args.pool c.args.units.now (vec_items d.column, d.division) (vec_items r.column, r.division) _ c.in_ok-down.ensures c.in_ok-running.ensures c.in_ok-format.ensures.ok
