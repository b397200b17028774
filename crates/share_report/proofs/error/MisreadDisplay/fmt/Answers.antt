use Rattle.std.proofs.Output.{has_written_of_eq}
use Rattle.share_report.proofs.ShareLaws.{word_told}
use Rattle.share_report.proofs.error.MisreadDisplay.fmt.Goals as goal

pub returns-clause-writes : goal.returns-clause-writes
returns-clause-writes g c = λ plain ok.
    has_written_of_eq _ _ _ _ _ (word_told c.args.self.now c.from-misread.result c.from-misread.ensures) (c.write.ensures.writes plain ok)
