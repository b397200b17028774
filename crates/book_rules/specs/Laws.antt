-- The laws of a book's life, over every list of calls that the book offers at their moments,
-- accepted or refused, and over every sharing rule.
--   past         the history of a list of calls since opening
--   bill_after   what a bill answers after a list of calls
--   Follows      bills follow the rows, balance, and are within a cent
--   Alike        books that agree on a line bill it alike
--   Powerless    a voided pass leaves no trace
--   LawsOfALife  the three, of a book as opening leaves it
use Rattle.std.specs.Prelude.{◌≡◌, ℕ, true, false, List, [], None}
use Rattle.tariff.specs.declared.rows.Sizes.{Sizes}
use Rattle.tariff.specs.declared.rows.UnitRow.{UnitRow}
use Rattle.tariff.specs.declared.rows.CostRow.{CostRow}
use Rattle.sharing.specs.Rule.{Rule}
use Rattle.lines.specs.declared.line.Line.{Line}
use Rattle.lines.specs.Lines.{line_of}
use Rattle.lines.specs.Totals.{line_costs}
use Rattle.bill_rules.specs.Bill.{Figures, Lengths, misfit, bill as line_bill}
use Rattle.bill_rules.specs.Laws.{Balances, Close, LawfulRows, Agree}
use Rattle.book_rules.specs.Machine.{open_refusal}
use Rattle.book_rules.specs.Run.{State, Call, bill, Answer, billed, told_bill, step, Offered, final, answers, Event, history, units_in, costs_in, at_opening}
use Rattle.book_rules.specs.Passes.{pass_of, is_void, struck, others_answers}

abbrev pub past : State → List Call → List Event
past s calls = history s [] calls

abbrev pub bill_after : State → List Call → Rule → ℕ → Lengths → Answer
bill_after s before rule n p = (step (final s before) (bill rule n p)).answer

-- Each bill answers as the bill of the rows accepted before it. Those rows are lawful, so that only
-- the columns' lengths, an unknown line or too large station charges can refuse it. An accepted bill
-- balances against all costs of its line accepted before it, and every share, station charge and
-- credit that it adds up is less than a cent from its exact fraction.
pub record Follows (s : State) : Type 0 where
  pub lawful : (before : List Call) → Offered s before → LawfulRows s.book.sizes (units_in (past s before)) (costs_in (past s before))
  pub answer : (before : List Call) (rule : Rule) (n : ℕ) (p : Lengths) → Offered s before → (final s before).is_frozen ≡ true →
      bill_after s before rule n p ≡ told_bill (line_bill rule.meaning n s.book.sizes (units_in (past s before)) (costs_in (past s before)) p)
  pub balance : (before : List Call) (rule : Rule) (n : ℕ) (p : Lengths) (f : Figures) → Offered s before → (final s before).is_frozen ≡ true →
      bill_after s before rule n p ≡ billed f → Balances f (line_costs n (costs_in (past s before)))
  pub close : (before : List Call) (rule : Rule) (l : Line) → Offered s before → Close rule.meaning l s.book.sizes (units_in (past s before)) (costs_in (past s before))

-- two frozen books of equal sizes, each after its own list of calls, whose histories' rows agree on a line
abbrev pub Alike : State → State → Type 0
Alike s t = (before before' : List Call) (rule : Rule) (n : ℕ) (p p' : Lengths) → s.book.sizes ≡ t.book.sizes →
    Offered s before → Offered t before' → (final s before).is_frozen ≡ true → (final t before').is_frozen ≡ true →
    misfit s.book.sizes p ≡ false → misfit t.book.sizes p' ≡ false →
    Agree (line_of n) s.book.sizes (units_in (past s before)) (units_in (past t before')) (costs_in (past s before)) (costs_in (past t before')) →
    bill_after s before rule n p ≡ bill_after t before' rule n p'

-- Strike out every call made with a voided pass: the list that is left is one that the book offers,
-- every other call answers as it did, and book and tables, free rows included, end the same.
pub record Powerless (s : State) : Type 0 where
  pub offered : (calls : List Call) → Offered s calls → Offered s (struck s [] calls)
  pub others : (calls : List Call) → Offered s calls → answers s (struck s [] calls) ≡ others_answers s [] calls
  pub ends : (calls : List Call) → Offered s calls → final s (struck s [] calls) ≡ final s calls
  pub idle : (before : List Call) (call : Call) → Offered s before → is_void (past s before) (pass_of call) ≡ true → (step (final s before) call).state ≡ final s before

pub record LawsOfALife (s : State) : Type 0 where
  pub bills_follow_the_rows : Follows s
  pub agreeing_books_bill_alike : (z : Sizes) (number : ℕ) (units : List UnitRow) (costs : List CostRow) (marks : List ℕ) → open_refusal z marks ≡ None → Alike s (at_opening z number units costs)
  pub a_voided_pass_leaves_no_trace : Powerless s
