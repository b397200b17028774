use Rattle.std.proofs.Common.{◌++◌, map}
use Rattle.std.specs.Fmt.{HasWritten, IsPlainFormatter}
use Rattle.std.specs.List.{flat_map}
use Rattle.share_report.specs.Report.{head_of, row}
use Rattle.share_report.proofs.table.TableDisplay.fmt.Given as goal

abbrev pub invariant-loop-customer : goal.invariant-loop-customer
invariant-loop-customer g l =
    IsPlainFormatter l.fn.f → HasWritten g.W.Write.write_str_gives l.fn.f
    (head_of l.self.pool ++ flat_map row (map (λ p. (p.0, (p.1.0.now, (p.1.1.0.now, p.1.1.1.now)))) l.yielded)) l.f
