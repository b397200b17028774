use Rattle.journal_line.proofs.Words.{unknown}
use Rattle.journal_line.proofs.parsing.call_in.Goals as goal

pub returns-in_err-call : goal.returns-in_err-call
returns-in_err-call c =
    let first = c.first_word.ensures in
    rw (c.from_residual.ensures, first.whole) (unknown c.first_word.result.0.now c.first_word.result.1.now first.word first.ends c.in_err-call.ensures)
