-- What a journal answers, in the code's words.
--   done_by             what an accepted call without a value is answered
--   rows_of, said_rows  the rows of an accepted bill of a line; nothing for any other answer
--   bill_text           the same by the command that was made
--   rows_reply          what a bill is answered: how many bytes its rows take, or that the buffer is too short
--   reply_for           the reply of a command, with a buffer of so many bytes for the rows of a bill
--   bill_answer         what a frozen book answers to a bill with columns of its own
--   out_after           what the buffer then holds
use Rattle.std.specs.Prelude.{ℕ, List, [], length, Some, None, Option}
use Rattle.tariff.specs.declared.refusal.Refusal.{Refusal}
use Rattle.tariff.specs.declared.rows.CostRow.{CostRow}
use Rattle.tariff.specs.declared.rows.UnitRow.{UnitRow}
use Rattle.tariff.specs.Refusals.{unless}
use Rattle.sharing.specs.Rule.{Meaning}
use Rattle.buffer.specs.Putting.{pasted, put_refusal}
use Rattle.book_rules.specs.Machine.{Book, book_bill}
use Rattle.book_rules.specs.Run.{Answer, accepted, gave, row, froze, stayed_open, reopened, billed, refused, not_offered, told_bill}
use Rattle.line_rows.specs.Rows.{line_text, book_columns}
use Rattle.journal_line.specs.declared.calls.Command.{Command}
use Rattle.journal_line.specs.declared.calls.Command.TheVariants.{Admit, Remove, HandIn, TakeIn, Post, Correct, Cost, Freeze, Reopen, Bill}
use Rattle.journal_rules.specs.Journal.{Reply as Said, answered, no_pass}
use Rattle.journal_book.specs.declared.replies.Reply.{Reply}
use Rattle.journal_book.specs.declared.replies.Reply.TheVariants.{Pass, Removed, HandedIn, Row, Corrected, Frozen, Open, Billed, Refused, NotOffered, NoPass}

-- the book accepts no other call than these four so
abbrev pub done_by : Command → Reply
done_by (Admit c) = NotOffered
done_by (Remove c) = Removed
done_by (HandIn n) = HandedIn
done_by (TakeIn n) = HandedIn
done_by (Post n u) = NotOffered
done_by (Correct n at q) = Corrected
done_by (Cost n r) = NotOffered
done_by Freeze = NotOffered
done_by Reopen = NotOffered
done_by (Bill line rule) = NotOffered

abbrev pub rows_of : ℕ → Answer → List ℕ
rows_of line accepted = []
rows_of line (gave p) = []
rows_of line (row n) = []
rows_of line (froze b) = []
rows_of line (stayed_open b e) = []
rows_of line (reopened b) = []
rows_of line (billed f) = line_text line f
rows_of line (refused e) = []
rows_of line not_offered = []

abbrev pub said_rows : ℕ → Said → List ℕ
said_rows line (answered a) = rows_of line a
said_rows line (no_pass n) = []

abbrev pub bill_text : Command → Said → List ℕ
bill_text (Admit c) said = []
bill_text (Remove c) said = []
bill_text (HandIn n) said = []
bill_text (TakeIn n) said = []
bill_text (Post n u) said = []
bill_text (Correct n at q) said = []
bill_text (Cost n r) said = []
bill_text Freeze said = []
bill_text Reopen said = []
bill_text (Bill line rule) said = said_rows line said

abbrev pub rows_reply : Option Refusal → ℕ → Reply
rows_reply None n = Billed n
rows_reply (Some e) n = Refused e

abbrev pub reply_for : ℕ → Command → Said → Reply
reply_for room command (answered accepted) = done_by command
reply_for room command (answered (gave p)) = Pass p.mark
reply_for room command (answered (row n)) = Row n
reply_for room command (answered (froze b)) = Frozen
reply_for room command (answered (stayed_open b e)) = Refused e
reply_for room command (answered (reopened b)) = Open
reply_for room command (answered (billed f)) = rows_reply (put_refusal room 0 (bill_text command (answered (billed f)))) (length (bill_text command (answered (billed f))))
reply_for room command (answered (refused e)) = Refused e
reply_for room command (answered not_offered) = NotOffered
reply_for room command (no_pass n) = NoPass n

abbrev pub bill_answer : Meaning → ℕ → Book → List UnitRow → List CostRow → Answer
bill_answer m line b units costs = told_bill (book_bill m line b units costs (book_columns b))

abbrev pub out_after : List ℕ → List ℕ → List ℕ
out_after out rows = unless (put_refusal (length out) 0 rows) out (pasted out 0 rows)
