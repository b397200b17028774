-- The words for a line that says nothing.
--   usage        what a call takes
--   fault_words  the fault as a user reads it
use Rattle.std.specs.Prelude.{ℕ, List, codes}
use Rattle.journal_line.specs.declared.calls.CallName.{CallName}
use Rattle.journal_line.specs.declared.calls.CallName.TheVariants.{Open, Admit, Remove, HandIn, TakeIn, Post, Correct, Cost, Freeze, Reopen, Bill}
use Rattle.journal_line.specs.declared.calls.Fault.{Fault}
use Rattle.journal_line.specs.declared.calls.Fault.TheVariants.{UnknownCall, Fields}

abbrev pub usage : CallName → List ℕ
usage Open = codes "open takes NUMBER CUSTOMERS DAYS SUBZONES UNITROWS COSTROWS, numbers between single spaces"
usage Admit = codes "admit takes CONTRIBUTOR, a number after a single space"
usage Remove = codes "remove takes CONTRIBUTOR, a number after a single space"
usage HandIn = codes "hand-in takes PASS, a number after a single space"
usage TakeIn = codes "take-in takes PASS, a number after a single space"
usage Post = codes "post takes PASS CUSTOMER DAY HOUR SUBZONE USE QUANTITY, numbers between single spaces"
usage Correct = codes "correct takes PASS ROW QUANTITY, numbers between single spaces"
usage Cost = codes "cost takes PASS LINE SUBZONE DAY HOUR AMOUNT, numbers between single spaces"
usage Freeze = codes "freeze takes nothing"
usage Reopen = codes "reopen takes nothing"
usage Bill = codes "bill takes LINE RULE, a number and then down or running, between single spaces"

abbrev pub fault_words : Fault → List ℕ
fault_words UnknownCall = codes "not a call of a journal"
fault_words (Fields call) = usage call
