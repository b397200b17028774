-- A journal read line by line.
--   Sitting            how far it has come: not opened, an opening that was refused, or a journal
--   Answered           what a line leaves, and its answer: a text, or why the line is out of form
--   answered, faulted  a line with an answer, and one out of form, which leaves all as it was
--   by_opening         the line that opens the book: the first call, and only once
--   by_call            any other call; without a book none is offered
--   without_end        a line without its line end
--   line_step          one line
--   Answers            what the code's call leaves and tells
--   Told               what is told of a line, and the text that it was appended to
--   Interrupted        for want of memory the line was not made, or its answer was not told
--   Appended           a text was appended, or not for want of memory
use Rattle.std.specs.Prelude.{◌≡◌, ℕ, ◌-◌, cond, ◌⊎◌, List, [], ◌++◌, length, take, replicate, Some, None, Ok, Err, codes, Option, Result, ◌==◌, slice_index}
use Rattle.tariff.specs.declared.refusal.Refusal.{Refusal}
use Rattle.tariff.specs.Limits.{contributors}
use Rattle.sharing.specs.Rule.{Rule}
use Rattle.book_rules.specs.Machine.{open_refusal}
use Rattle.line_rows.specs.Writing.{most_line}
use Rattle.journal_line.specs.declared.calls.Command.{Command}
use Rattle.journal_line.specs.declared.calls.Fault.{Fault}
use Rattle.journal_line.specs.declared.calls.Line.{Line}
use Rattle.journal_line.specs.declared.calls.Line.TheVariants.{Skipped, Open, Call}
use Rattle.journal_line.specs.declared.calls.Opening.{Opening}
use Rattle.sharing.specs.declared.names.RuleName.{RuleName}
use Rattle.journal_line.specs.Lines.{line_in}
use Rattle.journal_rules.specs.Journal.{Journal as Kept, step_journal}
use Rattle.journal_book.specs.Shown.{shown_journal, opening_journal}
use Rattle.journal_book.specs.Texts.{refusal_text, reply_text}
use Rattle.journal_session.specs.declared.faults.AnswerError.{AnswerError}
use Rattle.journal_session.specs.declared.faults.AnswerError.TheVariants.{Line as LineError, OutOfMemory}
use Rattle.journal_session.specs.declared.faults.LineFault.{LineFault}
use Rattle.journal_session.specs.declared.faults.LineFault.TheVariants.{OutOfForm, NotOpened, OpenedAgain}
use Rattle.journal_session.specs.declared.states.Session.{Session}
use Rattle.journal_session.specs.declared.states.Session.TheVariants.{Unopened, Refused, Running}

pub data Sitting : Type 0 where
  unopened : Sitting
  refused : Sitting
  running : Kept → Sitting

abbrev pub shown_session : Session → Sitting
shown_session Unopened = unopened
shown_session Refused = refused
shown_session (Running j) = running (shown_journal j)

pub record Answered : Type 0 where
  pub session : Sitting
  pub outcome : Result (List ℕ) LineFault

abbrev pub answered : Sitting → List ℕ → Answered
answered s text = record { session = s; outcome = Ok text }

abbrev pub faulted : Sitting → LineFault → Answered
faulted s fault = record { session = s; outcome = Err fault }

abbrev pub opened_by : Option Refusal → Opening → Answered
opened_by None o = answered (running (opening_journal o)) (codes "open\n")
opened_by (Some e) o = answered refused (refusal_text e)

abbrev pub by_opening : Sitting → Opening → Answered
by_opening unopened o = opened_by (open_refusal o.sizes (replicate contributors 0)) o
by_opening refused o = faulted refused OpenedAgain
by_opening (running j) o = faulted (running j) OpenedAgain

abbrev pub by_call : (RuleName → Rule) → Sitting → Command → Answered
by_call rules unopened command = faulted unopened NotOpened
by_call rules refused command = answered refused (codes "not offered\n")
by_call rules (running j) command = answered (running (step_journal rules j command).journal) (reply_text most_line command (step_journal rules j command).reply)

abbrev pub by_line : (RuleName → Rule) → Sitting → Result Line Fault → Answered
by_line rules s (Err fault) = faulted s (OutOfForm fault)
by_line rules s (Ok Skipped) = answered s []
by_line rules s (Ok (Open o)) = by_opening s o
by_line rules s (Ok (Call command)) = by_call rules s command

-- a line as it was read: its line end, byte 10, is no part of it
abbrev pub without_end : List ℕ → List ℕ
without_end bytes = cond (slice_index bytes (length bytes - 1) == 10) (take (length bytes - 1) bytes) bytes

abbrev pub line_step : (RuleName → Rule) → Sitting → List ℕ → Answered
line_step rules s line = by_line rules s (line_in line)

-- what the code's call leaves and tells

abbrev pub Told : Result (List ℕ) LineFault → Result (Unit {0}) LineFault → List ℕ → List ℕ → Type 0
Told (Ok text) r before after = (r ≡ Ok tt) × (after ≡ before ++ text)
Told (Err fault) r before after = (r ≡ Err fault) × (after ≡ before)

pub record Interrupted (a : Answered) (old new : Sitting) (before after : List ℕ) : Type 0 where
  pub session_was : (new ≡ old) ⊎ (new ≡ a.session)
  pub text_was : (after ≡ before) ⊎ ((text : List ℕ) × (a.outcome ≡ Ok text) × (after ≡ before ++ text))

abbrev pub Answers : Answered → Sitting → Sitting → List ℕ → List ℕ → Result (Unit {0}) AnswerError → Type 0
Answers a old new before after (Ok _) = (new ≡ a.session) × Told a.outcome (Ok tt) before after
Answers a old new before after (Err (LineError fault)) = (new ≡ a.session) × Told a.outcome (Err fault) before after
Answers a old new before after (Err OutOfMemory) = Interrupted a old new before after

abbrev pub Appended : List ℕ → List ℕ → List ℕ → Result (Unit {0}) AnswerError → Type 0
Appended before text after (Ok _) = after ≡ before ++ text
Appended before text after (Err (LineError fault)) = ⊥
Appended before text after (Err OutOfMemory) = after ≡ before
