-- The laws of a book's life, said of one list of calls.
--   LawsOf   each bill in the list follows the rows, balances and is within a cent; a book that agrees
--            on a line bills it alike; a voided pass leaves no trace
use Rattle.std.specs.Prelude.{◌≡◌, ℕ, true, false, List, [], ◌∷◌, ◌++◌, None}
use Rattle.tariff.specs.declared.rows.Sizes.{Sizes}
use Rattle.tariff.specs.declared.rows.UnitRow.{UnitRow}
use Rattle.tariff.specs.declared.rows.CostRow.{CostRow}
use Rattle.sharing.specs.Rule.{Rule}
use Rattle.lines.specs.declared.line.Line.{Line}
use Rattle.lines.specs.Lines.{line_of}
use Rattle.lines.specs.Totals.{line_costs}
use Rattle.bill_rules.specs.Bill.{Figures, Lengths, misfit, bill as line_bill}
use Rattle.bill_rules.specs.Laws.{Balances, Close, Agree}
use Rattle.book_rules.specs.Machine.{open_refusal}
use Rattle.book_rules.specs.Run.{State, Call, bill, billed, told_bill, Offered, final, answers, units_in, costs_in, at_opening}
use Rattle.book_rules.specs.Passes.{struck, others_answers}
use Rattle.book_rules.specs.Laws.{past, bill_after}

pub record LawsOf (s : State) (calls : List Call) : Type 0 where
  pub follows : (before behind : List Call) (rule : Rule) (n : ℕ) (p : Lengths) → calls ≡ before ++ (bill rule n p ∷ behind) →
      bill_after s before rule n p ≡ told_bill (line_bill rule.meaning n s.book.sizes (units_in (past s before)) (costs_in (past s before)) p)
  pub balances : (before behind : List Call) (rule : Rule) (n : ℕ) (p : Lengths) (f : Figures) → calls ≡ before ++ (bill rule n p ∷ behind) →
      bill_after s before rule n p ≡ billed f → Balances f (line_costs n (costs_in (past s before)))
  pub close : (before behind : List Call) (rule : Rule) (n : ℕ) (p : Lengths) (l : Line) → calls ≡ before ++ (bill rule n p ∷ behind) →
      Close rule.meaning l s.book.sizes (units_in (past s before)) (costs_in (past s before))
  pub alike : (z : Sizes) (number : ℕ) (units : List UnitRow) (costs : List CostRow) (marks : List ℕ) (others : List Call) (rule : Rule) (n : ℕ) (p p' : Lengths) →
      open_refusal z marks ≡ None → s.book.sizes ≡ z → Offered (at_opening z number units costs) others →
      (final s calls).is_frozen ≡ true → (final (at_opening z number units costs) others).is_frozen ≡ true →
      misfit s.book.sizes p ≡ false → misfit z p' ≡ false →
      Agree (line_of n) s.book.sizes (units_in (past s calls)) (units_in (past (at_opening z number units costs) others)) (costs_in (past s calls)) (costs_in (past (at_opening z number units costs) others)) →
      bill_after s calls rule n p ≡ bill_after (at_opening z number units costs) others rule n p'
  pub offered : Offered s (struck s [] calls)
  pub others : answers s (struck s [] calls) ≡ others_answers s [] calls
  pub ends : final s (struck s [] calls) ≡ final s calls
