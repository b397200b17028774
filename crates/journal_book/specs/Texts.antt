-- What a journal answers, as text. Each answer ends with a line end.
--   told_text     what a refusal tells, behind its number
--   refusal_text  a refusal: its number, and what it tells
--   fixed_words   the line of a reply that tells no number
--   reply_words   a reply, with the buffer that the rows of a bill stand in
--   reply_text    the text for a command, with a buffer of so many bytes for the rows of a bill
--   replay_text   the texts for a list of commands
use Rattle.std.specs.Prelude.{ℕ, List, [], ◌∷◌, ◌++◌, take, Some, None, codes, decimal, Option}
use Rattle.tariff.specs.declared.refusal.Refusal.{Refusal}
use Rattle.tariff.specs.declared.refusal.Told.{Told}
use Rattle.tariff.specs.declared.refusal.Told.TheVariants.{Nothing, Row as RowTold, AreaAndDay, Place}
use Rattle.tariff.specs.Refusals.{number, told, table_word}
use Rattle.sharing.specs.Rule.{Rule}
use Rattle.line_rows.specs.Writing.{most_line}
use Rattle.journal_line.specs.declared.calls.Command.{Command}
use Rattle.sharing.specs.declared.names.RuleName.{RuleName}
use Rattle.journal_rules.specs.Journal.{Journal, Reply as Said, step_journal}
use Rattle.journal_book.specs.declared.replies.Reply.{Reply}
use Rattle.journal_book.specs.declared.replies.Reply.TheVariants.{Pass, Removed, HandedIn, Row, Corrected, Frozen, Open, Billed, Refused, NotOffered, NoPass}
use Rattle.journal_book.specs.Replies.{bill_text, reply_for}

abbrev pub told_text : Told → List ℕ
told_text Nothing = codes "\n"
told_text (RowTold table row) = codes " " ++ (table_word table ++ (codes " " ++ (decimal row ++ codes "\n")))
told_text (AreaAndDay subzone day) = codes " " ++ (decimal subzone ++ (codes " " ++ (decimal day ++ codes "\n")))
told_text (Place place) = codes " " ++ (decimal place ++ codes "\n")

abbrev pub refusal_text : Refusal → List ℕ
refusal_text e = codes "refused " ++ (decimal (number e) ++ told_text (told e))

abbrev pub fixed_words : Reply → Option (List ℕ)
fixed_words (Pass n) = None
fixed_words Removed = Some (codes "removed\n")
fixed_words HandedIn = Some (codes "handed in\n")
fixed_words (Row n) = None
fixed_words Corrected = Some (codes "corrected\n")
fixed_words Frozen = Some (codes "frozen\n")
fixed_words Open = Some (codes "open\n")
fixed_words (Billed n) = None
fixed_words (Refused e) = None
fixed_words NotOffered = Some (codes "not offered\n")
fixed_words (NoPass n) = None

abbrev pub reply_words : List ℕ → Reply → List ℕ
reply_words out (Pass n) = codes "pass " ++ (decimal n ++ codes "\n")
reply_words out Removed = codes "removed\n"
reply_words out HandedIn = codes "handed in\n"
reply_words out (Row n) = codes "row " ++ (decimal n ++ codes "\n")
reply_words out Corrected = codes "corrected\n"
reply_words out Frozen = codes "frozen\n"
reply_words out Open = codes "open\n"
reply_words out (Billed n) = take n out
reply_words out (Refused e) = refusal_text e
reply_words out NotOffered = codes "not offered\n"
reply_words out (NoPass n) = codes "no pass " ++ (decimal n ++ codes "\n")

abbrev pub reply_text : ℕ → Command → Said → List ℕ
reply_text room command said = reply_words (bill_text command said) (reply_for room command said)

abbrev pub replay_text : (RuleName → Rule) → Journal → List Command → List ℕ
replay_text rules j [] = []
replay_text rules j (command ∷ commands) =
    reply_text most_line command (step_journal rules j command).reply ++ replay_text rules (step_journal rules j command).journal commands
