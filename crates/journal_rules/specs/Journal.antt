-- A journal: commands that are made on a book one by one, with the passes that they were given.
--   Journal                a book with its tables, and the passes given to the journal by their numbers from 1:
--                          a pass, or None once it was handed in or taken in
--   held_pass              the pass of a number, if the journal holds it
--   offers_to              whether a book, frozen or not, offers what a command asks for
--   call_for               the call that a command asks for, unless its pass is not held
--   Reply                  what a command is answered: the book's answer, or that its pass is not held
--   pass_number            the pass that a command names
--   place_for              the place of a pass that a call gave, if it gave one
--   held_after             the passes that are held after a call: an accepted admit gives one, and handing in or
--                          taking in, refused or not, ends one
--   Made                   the journal and the reply that a command leaves
--   after_call, called     what a call leaves; what a command leaves whose call is known, or its pass not held
--   step_journal           one command; that the book does not offer it is answered before its pass is looked for
--   after, replies         the journal that a list of commands leaves, and what each was answered
--   listed, made_by        the call that a command really makes, if any, as a list
--   calls_of               the calls that a list of commands makes, in order
--   answer_in, answers_in  the answers of the calls that were made: those other than that it is not offered
use Rattle.std.specs.Prelude.{ℕ, ◌-◌, Bool, cond, not, List, [], ◌∷◌, ◌++◌, Some, None, Option, ◌==◌, slice_index_or, slice_set}
use Rattle.std.specs.Option.{option_map}
use Rattle.sharing.specs.Rule.{Rule}
use Rattle.book_rules.specs.Machine.{Pass}
use Rattle.book_rules.specs.Passes.{given}
use Rattle.book_rules.specs.Run.{State, Call, admit, remove, hand_in, post, add_cost, correct, freeze, reopen, take_in, bill, Answer, accepted, gave, row, froze, stayed_open, reopened, billed, refused, not_offered, Outcome, step}
use Rattle.line_rows.specs.Rows.{book_columns}
use Rattle.journal_line.specs.declared.calls.Command.{Command}
use Rattle.journal_line.specs.declared.calls.Command.TheVariants.{Admit, Remove, HandIn, TakeIn, Post, Correct, Cost, Freeze, Reopen, Bill}
use Rattle.sharing.specs.declared.names.RuleName.{RuleName}

pub record Journal : Type 0 where
  pub state : State
  pub held : List (Option Pass)

abbrev pub held_pass : List (Option Pass) → ℕ → Option Pass
held_pass held n = cond (n == 0) None (slice_index_or held (n - 1) None)

abbrev pub offers_to : Bool → Command → Bool
offers_to is_frozen (Admit c) = not is_frozen
offers_to is_frozen (Remove c) = not is_frozen
offers_to is_frozen (HandIn n) = not is_frozen
offers_to is_frozen (TakeIn n) = is_frozen
offers_to is_frozen (Post n u) = not is_frozen
offers_to is_frozen (Correct n at q) = not is_frozen
offers_to is_frozen (Cost n r) = not is_frozen
offers_to is_frozen Freeze = not is_frozen
offers_to is_frozen Reopen = is_frozen
offers_to is_frozen (Bill line rule) = is_frozen

abbrev pub call_for : (RuleName → Rule) → Journal → Command → Option Call
call_for rules j (Admit c) = Some (admit c)
call_for rules j (Remove c) = Some (remove c)
call_for rules j (HandIn n) = option_map hand_in (held_pass j.held n)
call_for rules j (TakeIn n) = option_map take_in (held_pass j.held n)
call_for rules j (Post n u) = option_map (λ p. post p u) (held_pass j.held n)
call_for rules j (Correct n at q) = option_map (λ p. correct p at q) (held_pass j.held n)
call_for rules j (Cost n r) = option_map (λ p. add_cost p r) (held_pass j.held n)
call_for rules j Freeze = Some freeze
call_for rules j Reopen = Some reopen
call_for rules j (Bill line rule) = Some (bill (rules rule) line (book_columns j.state.book))

pub data Reply : Type 0 where
  answered : Answer → Reply
  no_pass : ℕ → Reply

-- 0 where it names none
abbrev pub pass_number : Command → ℕ
pass_number (Admit c) = 0
pass_number (Remove c) = 0
pass_number (HandIn n) = n
pass_number (TakeIn n) = n
pass_number (Post n u) = n
pass_number (Correct n at q) = n
pass_number (Cost n r) = n
pass_number Freeze = 0
pass_number Reopen = 0
pass_number (Bill line rule) = 0

abbrev pub place_for : Option Pass → List (Option Pass)
place_for None = []
place_for (Some p) = Some p ∷ []

abbrev pub held_after : Command → Answer → List (Option Pass) → List (Option Pass)
held_after (Admit c) a held = held ++ place_for (given a)
held_after (Remove c) a held = held
held_after (HandIn n) a held = slice_set held (n - 1) None
held_after (TakeIn n) a held = slice_set held (n - 1) None
held_after (Post n u) a held = held
held_after (Correct n at q) a held = held
held_after (Cost n r) a held = held
held_after Freeze a held = held
held_after Reopen a held = held
held_after (Bill line rule) a held = held

pub record Made : Type 0 where
  pub journal : Journal
  pub reply : Reply

abbrev pub after_call : Command → List (Option Pass) → Outcome → Made
after_call command held o = record { journal = record { state = o.state; held = held_after command o.answer held }; reply = answered o.answer }

abbrev pub called : Journal → Command → Option Call → Made
called j command None = record { journal = j; reply = no_pass (pass_number command) }
called j command (Some call) = after_call command j.held (step j.state call)

abbrev pub step_journal : (RuleName → Rule) → Journal → Command → Made
step_journal rules j command =
    cond (offers_to j.state.is_frozen command) (called j command (call_for rules j command)) (record { journal = j; reply = answered not_offered })

-- lists of commands

abbrev pub after : (RuleName → Rule) → Journal → List Command → Journal
after rules j [] = j
after rules j (command ∷ commands) = after rules (step_journal rules j command).journal commands

abbrev pub replies : (RuleName → Rule) → Journal → List Command → List Reply
replies rules j [] = []
replies rules j (command ∷ commands) = (step_journal rules j command).reply ∷ replies rules (step_journal rules j command).journal commands

abbrev pub listed : Option Call → List Call
listed None = []
listed (Some call) = call ∷ []

abbrev pub made_by : (RuleName → Rule) → Journal → Command → List Call
made_by rules j command = cond (offers_to j.state.is_frozen command) (listed (call_for rules j command)) []

abbrev pub calls_of : (RuleName → Rule) → Journal → List Command → List Call
calls_of rules j [] = []
calls_of rules j (command ∷ commands) = made_by rules j command ++ calls_of rules (step_journal rules j command).journal commands

abbrev pub answer_in : Answer → List Answer
answer_in accepted = accepted ∷ []
answer_in (gave p) = gave p ∷ []
answer_in (row n) = row n ∷ []
answer_in (froze b) = froze b ∷ []
answer_in (stayed_open b e) = stayed_open b e ∷ []
answer_in (reopened b) = reopened b ∷ []
answer_in (billed f) = billed f ∷ []
answer_in (refused e) = refused e ∷ []
answer_in not_offered = []

abbrev pub answers_in : List Reply → List Answer
answers_in [] = []
answers_in (answered a ∷ rs) = answer_in a ++ answers_in rs
answers_in (no_pass n ∷ rs) = answers_in rs
