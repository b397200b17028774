-- The journal of the code, as the rules'.
--   shown_journal    a journal
--   opening_journal  a journal as opening leaves it, with tables of free rows
--   told_journal     the journal that opening gives, or its refusal; nothing for want of memory
--   rules_for        the rules that a bill can be asked for by, from what the two given ones mean
use Rattle.std.specs.Prelude.{[], replicate, Some, None, Ok, Err, Option, Result}
use Rattle.tariff.specs.declared.refusal.Refusal.{Refusal as Reason}
use Rattle.sharing.specs.Rule.{Meaning, Lawful, Rule}
use Rattle.lines.specs.Rows.{no_units, no_cost}
use Rattle.book_rules.specs.Run.{at_opening}
use Rattle.journal_line.specs.declared.calls.Opening.{Opening}
use Rattle.sharing.specs.declared.names.RuleName.{RuleName}
use Rattle.sharing.specs.declared.names.RuleName.TheVariants.{Down, Running}
use Rattle.journal_rules.specs.Journal.{Journal as Kept}
use Rattle.journal_book.specs.declared.errors.OpenError.{OpenError}
use Rattle.journal_book.specs.declared.errors.OpenError.TheVariants.{Refused, OutOfMemory}
use Rattle.journal_book.specs.declared.states.Journal.{Journal}
use Rattle.journal_book.specs.Stages.{shown_as}

abbrev pub shown_journal : Journal → Kept
shown_journal j = shown_as j.stage j.tables

abbrev pub opening_journal : Opening → Kept
opening_journal o = record { state = at_opening o.sizes o.number (replicate o.unit_rows no_units) (replicate o.cost_rows no_cost); held = [] }

abbrev pub told_journal : Result Journal OpenError → Option (Result Kept Reason)
told_journal (Ok j) = Some (Ok (shown_journal j))
told_journal (Err (Refused e)) = Some (Err e)
told_journal (Err OutOfMemory) = None

abbrev pub rules_for : (down running : Meaning) → Lawful down → Lawful running → RuleName → Rule
rules_for down running d r Down = record { meaning = down; lawful = d }
rules_for down running d r Running = record { meaning = running; lawful = r }
