use Rattle.std.proofs.Common.{map, take}
use Rattle.std.specs.Fmt.{HasWritten, IsPlainFormatter}
use Rattle.share_report.specs.Report.{shown_byte}
use Rattle.share_report.proofs.excerpt.ExcerptDisplay.fmt.Given as goal

abbrev pub invariant-loop-b : goal.invariant-loop-b
invariant-loop-b g l =
    IsPlainFormatter l.initial.f → HasWritten g.W.Write.write_str_gives l.initial.f (map shown_byte (take l.b-index (take l.self.length l.self.bytes))) l.f
