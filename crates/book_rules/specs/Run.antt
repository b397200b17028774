-- A book under any list of calls.
--   State                    a book, whether it is frozen, and the caller's tables whole, as the last call left them
--   Call                     the ten calls; a bill is asked for by a rule, a line and the lengths of its columns
--   Answer                   all that a call gives back
--   Outcome                  the state and the answer that a call leaves
--   outcome                  a refused call leaves the state as it was
--   offers                   whether the book offers a call at the moment: bill, reopen and take in while frozen, the others while open
--   perform                  what an offered call does
--   step                     one call; the book does not answer a call that it does not offer
--   Offered                  each call of a list is one that the book offers at its moment
--   final, answers, history  where a list of calls ends, what each answered, and both as events, the newest first
--   is_accepted              an answer is no refusal
--   units_in, costs_in       the rows of a history: those of the accepted posts and costs, a corrected unit
--                            row with its last accepted quantity
--   opened, closed           an open and a frozen book with any tables
--   at_opening               a book as opening leaves it
use Rattle.std.specs.Prelude.{◌≡◌, ℕ, ◌+◌, Bool, true, false, cond, not, List, [], ◌∷◌, ◌++◌, replicate, Some, None, Ok, Err, Option, Result, slice_set}
use Rattle.tariff.specs.declared.refusal.Refusal.{Refusal}
use Rattle.tariff.specs.declared.rows.Sizes.{Sizes}
use Rattle.tariff.specs.declared.rows.UnitRow.{UnitRow}
use Rattle.tariff.specs.declared.rows.CostRow.{CostRow}
use Rattle.tariff.specs.Limits.{contributors}
use Rattle.sharing.specs.Rule.{Rule}
use Rattle.bill_rules.specs.Bill.{Figures, Lengths}
use Rattle.book_rules.specs.Machine.{Book, Pass, new_book, admit_refusal, with_last_pass, new_pass, remove_refusal, hand_in_refusal, take_in_refusal, post_refusal, with_units, cost_refusal, with_costs, corrected, correct_refusal, freeze_refusal, book_bill}

pub record State : Type 0 where
  pub book : Book
  pub is_frozen : Bool
  pub units : List UnitRow
  pub costs : List CostRow
  pub marks : List ℕ

pub data Call : Type 0 where
  admit : ℕ → Call
  remove : ℕ → Call
  hand_in : Pass → Call
  post : Pass → UnitRow → Call
  add_cost : Pass → CostRow → Call
  correct : Pass → ℕ → ℕ → Call
  freeze : Call
  reopen : Call
  take_in : Pass → Call
  bill : Rule → ℕ → Lengths → Call

-- a freeze, refused or not, and a reopening give a book back
pub data Answer : Type 0 where
  accepted : Answer
  gave : Pass → Answer
  row : ℕ → Answer
  froze : Book → Answer
  stayed_open : Book → Refusal → Answer
  reopened : Book → Answer
  billed : Figures → Answer
  refused : Refusal → Answer
  not_offered : Answer

pub record Outcome : Type 0 where
  pub state : State
  pub answer : Answer

abbrev pub outcome : Option Refusal → State → State → Answer → Outcome
outcome None old new a = record { state = new; answer = a }
outcome (Some e) old new a = record { state = old; answer = refused e }

abbrev pub with_marks : State → Book → List ℕ → State
with_marks s b marks = record { book = b; is_frozen = s.is_frozen; units = s.units; costs = s.costs; marks = marks }

abbrev pub with_unit_rows : State → Book → List UnitRow → State
with_unit_rows s b units = record { book = b; is_frozen = s.is_frozen; units = units; costs = s.costs; marks = s.marks }

abbrev pub with_cost_rows : State → Book → List CostRow → State
with_cost_rows s b costs = record { book = b; is_frozen = s.is_frozen; units = s.units; costs = costs; marks = s.marks }

abbrev pub with_frozen : State → Bool → State
with_frozen s f = record { book = s.book; is_frozen = f; units = s.units; costs = s.costs; marks = s.marks }

-- a refused freeze gives the open book back
abbrev pub frozen_by : Option Refusal → State → Outcome
frozen_by None s = record { state = with_frozen s true; answer = froze s.book }
frozen_by (Some e) s = record { state = s; answer = stayed_open s.book e }

abbrev pub told_bill : Result Figures Refusal → Answer
told_bill (Ok f) = billed f
told_bill (Err e) = refused e

abbrev pub perform : State → Call → Outcome
perform s (admit c) = outcome (admit_refusal s.book s.marks c) s
    (with_marks s (with_last_pass s.book (s.book.last_pass + 1)) (slice_set s.marks c (s.book.last_pass + 1))) (gave (new_pass s.book c))
perform s (remove c) = outcome (remove_refusal s.marks c) s (with_marks s s.book (slice_set s.marks c 0)) accepted
perform s (hand_in p) = outcome (hand_in_refusal s.book s.marks p) s (with_marks s s.book (slice_set s.marks p.contributor 0)) accepted
perform s (post p u) = outcome (post_refusal s.book s.units s.marks p u) s
    (with_unit_rows s (with_units s.book (s.book.units + 1)) (slice_set s.units s.book.units u)) (row s.book.units)
perform s (add_cost p r) = outcome (cost_refusal s.book s.costs s.marks p r) s
    (with_cost_rows s (with_costs s.book (s.book.costs + 1)) (slice_set s.costs s.book.costs r)) (row s.book.costs)
perform s (correct p at q) = outcome (correct_refusal s.book s.units s.marks p at q) s (with_unit_rows s s.book (corrected s.units at q)) accepted
perform s freeze = frozen_by (freeze_refusal s.marks) s
perform s reopen = record { state = with_frozen s false; answer = reopened s.book }
perform s (take_in p) = record { state = s; answer = refused (take_in_refusal s.marks) }
perform s (bill rule n p) = record { state = s; answer = told_bill (book_bill rule.meaning n s.book s.units s.costs p) }

abbrev pub offers : State → Call → Bool
offers s (admit c) = not s.is_frozen
offers s (remove c) = not s.is_frozen
offers s (hand_in p) = not s.is_frozen
offers s (post p u) = not s.is_frozen
offers s (add_cost p r) = not s.is_frozen
offers s (correct p at q) = not s.is_frozen
offers s freeze = not s.is_frozen
offers s reopen = s.is_frozen
offers s (take_in p) = s.is_frozen
offers s (bill rule n p) = s.is_frozen

abbrev pub stepped : Bool → State → Outcome → Outcome
stepped true s o = o
stepped false s o = record { state = s; answer = not_offered }

abbrev pub step : State → Call → Outcome
step s call = stepped (offers s call) s (perform s call)

-- runs

abbrev pub Offered : State → List Call → Type 0
Offered s [] = Unit {0}
Offered s (call ∷ calls) = (offers s call ≡ true) × Offered (step s call).state calls

abbrev pub final : State → List Call → State
final s [] = s
final s (call ∷ calls) = final (step s call).state calls

abbrev pub answers : State → List Call → List Answer
answers s [] = []
answers s (call ∷ calls) = (step s call).answer ∷ answers (step s call).state calls

pub record Event : Type 0 where
  pub call : Call
  pub answer : Answer

abbrev pub event : State → Call → Event
event s call = record { call = call; answer = (step s call).answer }

-- the events of a list of calls, before those that were past
abbrev pub history : State → List Event → List Call → List Event
history s past [] = past
history s past (call ∷ calls) = history (step s call).state (event s call ∷ past) calls

-- the rows of a history

abbrev pub is_accepted : Answer → Bool
is_accepted accepted = true
is_accepted (gave p) = true
is_accepted (row n) = true
is_accepted (froze b) = true
is_accepted (stayed_open b e) = false
is_accepted (reopened b) = true
is_accepted (billed f) = true
is_accepted (refused e) = false
is_accepted not_offered = false

abbrev pub units_after : Call → List UnitRow → List UnitRow
units_after (admit c) us = us
units_after (remove c) us = us
units_after (hand_in p) us = us
units_after (post p u) us = us ++ u ∷ []
units_after (add_cost p r) us = us
units_after (correct p at q) us = corrected us at q
units_after freeze us = us
units_after reopen us = us
units_after (take_in p) us = us
units_after (bill rule n p) us = us

abbrev pub costs_after : Call → List CostRow → List CostRow
costs_after (admit c) rs = rs
costs_after (remove c) rs = rs
costs_after (hand_in p) rs = rs
costs_after (post p u) rs = rs
costs_after (add_cost p r) rs = rs ++ r ∷ []
costs_after (correct p at q) rs = rs
costs_after freeze rs = rs
costs_after reopen rs = rs
costs_after (take_in p) rs = rs
costs_after (bill rule n p) rs = rs

abbrev pub units_in : List Event → List UnitRow
units_in [] = []
units_in (e ∷ past) = cond (is_accepted e.answer) (units_after e.call (units_in past)) (units_in past)

abbrev pub costs_in : List Event → List CostRow
costs_in [] = []
costs_in (e ∷ past) = cond (is_accepted e.answer) (costs_after e.call (costs_in past)) (costs_in past)

abbrev pub opened : Book → List UnitRow → List CostRow → List ℕ → State
opened b units costs marks = record { book = b; is_frozen = false; units = units; costs = costs; marks = marks }

abbrev pub closed : Book → List UnitRow → List CostRow → List ℕ → State
closed b units costs marks = record { book = b; is_frozen = true; units = units; costs = costs; marks = marks }

abbrev pub at_opening : Sizes → ℕ → List UnitRow → List CostRow → State
at_opening z number units costs = opened (new_book z number) units costs (replicate contributors 0)
