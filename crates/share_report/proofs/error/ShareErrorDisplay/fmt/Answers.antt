use Rattle.std.proofs.Output.{has_written_of_eq}
use Rattle.share_report.proofs.ShareLaws.{error_told}
use Rattle.share_report.proofs.error.ShareErrorDisplay.fmt.Goals as goal

pub returns-clause-writes : goal.returns-clause-writes
returns-clause-writes g c = λ plain ok.
    has_written_of_eq _ _ _ _ _ (error_told c.args.self.now c.from-error.result c.from-error.ensures) (c.write.ensures.writes plain ok)
