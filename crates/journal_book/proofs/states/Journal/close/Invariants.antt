use Rattle.std.proofs.Common.{vec_len}
use Rattle.journal_book.proofs.states.Journal.close.Given as goal

abbrev pub decreases-loop-held : goal.decreases-loop-held
decreases-loop-held l = vec_len l.passes
