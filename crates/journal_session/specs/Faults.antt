-- The words for a line that is not answered.
--   line_fault_words    the fault of a line that ends the journal, as a user reads it
--   answer_error_words  the same, or that memory ran out
use Rattle.std.specs.Prelude.{ℕ, List, codes}
use Rattle.journal_line.specs.Faults.{fault_words}
use Rattle.journal_session.specs.declared.faults.AnswerError.{AnswerError}
use Rattle.journal_session.specs.declared.faults.AnswerError.TheVariants.{Line, OutOfMemory}
use Rattle.journal_session.specs.declared.faults.LineFault.{LineFault}
use Rattle.journal_session.specs.declared.faults.LineFault.TheVariants.{OutOfForm, NotOpened, OpenedAgain}

abbrev pub line_fault_words : LineFault → List ℕ
line_fault_words (OutOfForm fault) = fault_words fault
line_fault_words NotOpened = codes "the first call of a journal is open"
line_fault_words OpenedAgain = codes "a journal is opened only once"

abbrev pub answer_error_words : AnswerError → List ℕ
answer_error_words (Line fault) = line_fault_words fault
answer_error_words OutOfMemory = codes "memory allocation failed"
