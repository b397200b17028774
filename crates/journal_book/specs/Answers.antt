-- What the calls of a journal leave, by the rules.
--   Answers   a journal has made a command: it is as the rules say, and answers as they say
--   Leaves    the same of a call that may find no memory, and then has changed nothing
--   Written   the buffer holds the rows of an accepted bill, and is else as it was
use Rattle.std.specs.Prelude.{◌≡◌, ℕ, List, Ok, Err, Result}
use Rattle.std.specs.declared.alloc.AllocError.{AllocError}
use Rattle.sharing.specs.Rule.{Rule}
use Rattle.journal_line.specs.declared.calls.Command.{Command}
use Rattle.sharing.specs.declared.names.RuleName.{RuleName}
use Rattle.journal_rules.specs.Journal.{Journal, step_journal}
use Rattle.journal_book.specs.declared.replies.Reply.{Reply}
use Rattle.journal_book.specs.Replies.{reply_for, bill_text, out_after}

pub record Answers (rules : RuleName → Rule) (room : ℕ) (command : Command) (old new : Journal) (reply : Reply) : Type 0 where
  pub leaves : new ≡ (step_journal rules old command).journal
  pub replies : reply ≡ reply_for room command (step_journal rules old command).reply

abbrev pub Leaves : (RuleName → Rule) → ℕ → Command → Journal → Journal → Result Reply AllocError → Type 0
Leaves rules room command old new (Ok reply) = Answers rules room command old new reply
Leaves rules room command old new (Err e) = new ≡ old

abbrev pub Written : (RuleName → Rule) → Command → Journal → List ℕ → List ℕ → Result Reply AllocError → Type 0
Written rules command old before after (Ok reply) = after ≡ out_after before (bill_text command (step_journal rules old command).reply)
Written rules command old before after (Err e) = after ≡ before
