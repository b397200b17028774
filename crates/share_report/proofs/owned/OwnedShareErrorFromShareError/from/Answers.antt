use Rattle.std.proofs.Common.{refl}
use Rattle.share_report.proofs.owned.OwnedShareErrorFromShareError.from.Goals as goal

pub returns-in-Misread : goal.returns-in-Misread
returns-in-Misread c = rw c.in-Misread.is (c.from.result, refl, c.from.ensures)
