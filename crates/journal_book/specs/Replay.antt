-- What a replay of commands leaves.
--   Tells      one command has been made, and the text of its answer appended; without memory for
--              either, the text is as it was
--   Replayed   a list of commands has been made, and a text appended for each
--   Stopped    for want of memory only the first commands have been made, and of these texts at most
--              the last is missing
--   Replays    a replay is one or the other
use Rattle.std.specs.Prelude.{◌≡◌, ℕ, ◌+◌, ◌≤◌, ◌⊎◌, List, ◌++◌, take, Ok, Err, Result}
use Rattle.std.specs.declared.alloc.AllocError.{AllocError}
use Rattle.sharing.specs.Rule.{Rule}
use Rattle.journal_line.specs.declared.calls.Command.{Command}
use Rattle.sharing.specs.declared.names.RuleName.{RuleName}
use Rattle.journal_rules.specs.Journal.{Journal, step_journal, after}
use Rattle.journal_book.specs.Texts.{reply_text, replay_text}

abbrev pub Tells : (RuleName → Rule) → ℕ → Command → Journal → Journal → List ℕ → List ℕ → Result (Unit {0}) AllocError → Type 0
Tells rules room command old new before text (Ok _) = (new ≡ (step_journal rules old command).journal) × (text ≡ before ++ reply_text room command (step_journal rules old command).reply)
Tells rules room command old new before text (Err e) = ((new ≡ old) ⊎ (new ≡ (step_journal rules old command).journal)) × (text ≡ before)

pub record Replayed (rules : RuleName → Rule) (old : Journal) (commands : List Command) (new : Journal) (before text : List ℕ) : Type 0 where
  pub leaves : new ≡ after rules old commands
  pub writes : text ≡ before ++ replay_text rules old commands

pub record Stopped (rules : RuleName → Rule) (old : Journal) (commands : List Command) (new : Journal) (before text : List ℕ) : Type 0 where
  pub told : ℕ
  pub made : ℕ
  pub near : (told ≤ made) × (made ≤ told + 1)
  pub leaves : new ≡ after rules old (take made commands)
  pub writes : text ≡ before ++ replay_text rules old (take told commands)

abbrev pub Replays : (RuleName → Rule) → Journal → List Command → Journal → List ℕ → List ℕ → Result (Unit {0}) AllocError → Type 0
Replays rules old commands new before text (Ok _) = Replayed rules old commands new before text
Replays rules old commands new before text (Err e) = Stopped rules old commands new before text
