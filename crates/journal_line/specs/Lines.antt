-- What a line of a journal says; `text` is what is left of the line.
--   word_ends                                      a text in which a word ends: it is empty or begins with a space
--   after_first                                    what follows the first word of a line, if it is this word
--   called, call_in                                a call with what follows it; the call that the first word names
--   next_in                                        the number behind a space, not above a limit, with what follows it
--   last_in                                        such a number with nothing behind it
--   opening_in, unit_row_in, cost_row_in, rule_in  what stands in the last fields of a line
--   post_in, correct_in, cost_in, bill_in          the fields of the calls that take several
--   fields_in                                      what a call says with the fields behind it
--   or_fields                                      what the fields say, or the fault of the call's fields
--   told                                           what a call says, or the fault of an unknown one
--   line_in                                        what a line says, or its fault; 35 is `#`
use Rattle.std.specs.Prelude.{ℕ, cond, List, [], ◌∷◌, Some, None, Ok, Err, codes, Option, Result, ◌==◌}
use Rattle.journal_line.specs.declared.calls.CallName.{CallName}
use Rattle.journal_line.specs.declared.calls.CallName.TheVariants.{Open as open_call, Admit as admit_call, Remove as remove_call, HandIn as hand_in_call, TakeIn as take_in_call, Post as post_call, Correct as correct_call, Cost as cost_call, Freeze as freeze_call, Reopen as reopen_call, Bill as bill_call}
use Rattle.journal_line.specs.declared.calls.Command.{Command}
use Rattle.journal_line.specs.declared.calls.Command.TheVariants.{Admit, Remove, HandIn, TakeIn, Post, Correct, Cost, Freeze, Reopen, Bill}
use Rattle.journal_line.specs.declared.calls.Fault.{Fault}
use Rattle.journal_line.specs.declared.calls.Fault.TheVariants.{UnknownCall, Fields}
use Rattle.journal_line.specs.declared.calls.Line.{Line}
use Rattle.journal_line.specs.declared.calls.Line.TheVariants.{Skipped, Open, Call}
use Rattle.journal_line.specs.declared.calls.Opening.{Opening}
use Rattle.sharing.specs.declared.names.RuleName.{RuleName}
use Rattle.sharing.specs.declared.names.RuleName.TheVariants.{Down, Running}
use Rattle.scanning.specs.Scanning.{bind, or_else, after_word, field_in, at_end}
use Rattle.std.specs.Option.{option_map}
use Rattle.tariff.specs.declared.rows.CostRow.{CostRow}
use Rattle.tariff.specs.declared.rows.UnitRow.{UnitRow}

abbrev pub word_ends : List ℕ → Option (List ℕ)
word_ends [] = Some []
word_ends (b ∷ bs) = cond (b == 32) (Some (b ∷ bs)) None

abbrev pub after_first : List ℕ → List ℕ → Option (List ℕ)
after_first word text = bind (after_word word text) word_ends

abbrev pub called : CallName → List ℕ → Option (CallName × List ℕ)
called call rest = Some (call, rest)

abbrev pub call_in : List ℕ → Option (CallName × List ℕ)
call_in text =
    or_else (after_first (codes "open") text) (called open_call) (
    or_else (after_first (codes "admit") text) (called admit_call) (
    or_else (after_first (codes "remove") text) (called remove_call) (
    or_else (after_first (codes "hand-in") text) (called hand_in_call) (
    or_else (after_first (codes "take-in") text) (called take_in_call) (
    or_else (after_first (codes "post") text) (called post_call) (
    or_else (after_first (codes "correct") text) (called correct_call) (
    or_else (after_first (codes "cost") text) (called cost_call) (
    or_else (after_first (codes "freeze") text) (called freeze_call) (
    or_else (after_first (codes "reopen") text) (called reopen_call) (
    or_else (after_first (codes "bill") text) (called bill_call) None))))))))))

abbrev pub next_in : ℕ → List ℕ → Option (ℕ × List ℕ)
next_in most text = field_in (codes " ") most text

abbrev pub last_in : ℕ → List ℕ → Option ℕ
last_in most text = bind (next_in most text) (λ n. at_end n.1 n.0)

abbrev pub opening_in : List ℕ → Option Opening
opening_in text =
    bind (next_in 4294967295 text) (λ number.
    bind (next_in 65535 number.1) (λ customers.
    bind (next_in 255 customers.1) (λ days.
    bind (next_in 255 days.1) (λ subzones.
    bind (next_in 65536 subzones.1) (λ unit_rows.
    bind (last_in 16384 unit_rows.1) (λ cost_rows.
    Some (record { number = number.0; sizes = record { customers = customers.0; days = days.0; subzones = subzones.0 }; unit_rows = unit_rows.0; cost_rows = cost_rows })))))))

abbrev pub unit_row_in : List ℕ → Option UnitRow
unit_row_in text =
    bind (next_in 65535 text) (λ customer.
    bind (next_in 255 customer.1) (λ day.
    bind (next_in 255 day.1) (λ hour.
    bind (next_in 255 hour.1) (λ subzone.
    bind (next_in 255 subzone.1) (λ usage.
    bind (last_in 4294967295 usage.1) (λ quantity.
    Some (record { customer = customer.0; day = day.0; hour = hour.0; subzone = subzone.0; usage = usage.0; quantity = quantity })))))))

abbrev pub cost_row_in : List ℕ → Option CostRow
cost_row_in text =
    bind (next_in 255 text) (λ line.
    bind (next_in 255 line.1) (λ subzone.
    bind (next_in 255 subzone.1) (λ day.
    bind (next_in 255 day.1) (λ hour.
    bind (last_in 4294967295 hour.1) (λ amount.
    Some (record { line = line.0; subzone = subzone.0; day = day.0; hour = hour.0; amount = amount }))))))

abbrev pub rule_in : List ℕ → Option RuleName
rule_in text = or_else (after_word (codes " down") text) (λ rest. at_end rest Down) (bind (after_word (codes " running") text) (λ rest. at_end rest Running))

abbrev pub post_in : List ℕ → Option Command
post_in text = bind (next_in 4294967295 text) (λ pass. option_map (Post pass.0) (unit_row_in pass.1))

abbrev pub correct_in : List ℕ → Option Command
correct_in text =
    bind (next_in 4294967295 text) (λ pass.
    bind (next_in 18446744073709551615 pass.1) (λ row.
    option_map (Correct pass.0 row.0) (last_in 4294967295 row.1)))

abbrev pub cost_in : List ℕ → Option Command
cost_in text = bind (next_in 4294967295 text) (λ pass. option_map (Cost pass.0) (cost_row_in pass.1))

abbrev pub bill_in : List ℕ → Option Command
bill_in text = bind (next_in 255 text) (λ line. option_map (Bill line.0) (rule_in line.1))

abbrev pub fields_in : CallName → List ℕ → Option Line
fields_in open_call text = option_map Open (opening_in text)
fields_in admit_call text = option_map (λ contributor. Call (Admit contributor)) (last_in 18446744073709551615 text)
fields_in remove_call text = option_map (λ contributor. Call (Remove contributor)) (last_in 18446744073709551615 text)
fields_in hand_in_call text = option_map (λ pass. Call (HandIn pass)) (last_in 4294967295 text)
fields_in take_in_call text = option_map (λ pass. Call (TakeIn pass)) (last_in 4294967295 text)
fields_in post_call text = option_map Call (post_in text)
fields_in correct_call text = option_map Call (correct_in text)
fields_in cost_call text = option_map Call (cost_in text)
fields_in freeze_call text = at_end text (Call Freeze)
fields_in reopen_call text = at_end text (Call Reopen)
fields_in bill_call text = option_map Call (bill_in text)

abbrev pub or_fields : CallName → Option Line → Result Line Fault
or_fields call (Some line) = Ok line
or_fields call None = Err (Fields call)

abbrev pub told : Option (CallName × List ℕ) → Result Line Fault
told (Some (call, fields)) = or_fields call (fields_in call fields)
told None = Err UnknownCall

abbrev pub line_in : List ℕ → Result Line Fault
line_in [] = Ok Skipped
line_in (b ∷ bs) = cond (b == 35) (Ok Skipped) (told (call_in (b ∷ bs)))
