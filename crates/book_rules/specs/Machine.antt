-- The book and its passes: when each call is refused, in checking order, and what it changes.
--   Book                      the numbers of a book: sizes, own number, counts of rows, last pass number
--   Pass                      what a pass says: a book, a contributor, and the number it was given
--   unmarked                  the marks are not one for each of the 64 contributors
--   new_book                  the book that opening makes
--   open_refusal              the refusals of opening, and so for each call: admit, remove, hand in, take in,
--                             post, add cost, correct, freeze
--   valid                     a pass is valid at an open book: it is of this book, and its number is its contributor's mark
--   new_pass                  the pass that an admit hands out
--   with..                    the book with one number changed
--   with_quantity, corrected  a unit row, and a table, with one quantity changed
--   outstanding               some mark is not 0
--   short_tables              a table has fewer rows than the book counts
--   book_bill                 the bill of the rows that the book counts
use Rattle.std.specs.Prelude.{ℕ, ◌+◌, Bool, false, cond, not, ◌&&◌, ◌||◌, List, [], ◌∷◌, length, take, Err, Option, Result, ◌==◌, nat_le, nat_lt, slice_index, slice_index_or, slice_set}
use Rattle.tariff.specs.declared.refusal.Refusal.{Refusal}
use Rattle.tariff.specs.declared.refusal.Refusal.TheVariants.{SizeOutOfRange, TableUnfit, UnknownContributor, AlreadyAdmitted, PassNumbersUsedUp, NotAdmitted, PassNotValid, FieldOutOfRange, NoSuchRow, TableFull, SumTooLarge, PassOutstanding}
use Rattle.tariff.specs.declared.rows.Sizes.{Sizes}
use Rattle.tariff.specs.declared.rows.UnitRow.{UnitRow}
use Rattle.tariff.specs.declared.rows.CostRow.{CostRow}
use Rattle.tariff.specs.Limits.{contributors, last_pass_number, most_amount}
use Rattle.tariff.specs.Refusals.{first_of}
use Rattle.sharing.specs.Rule.{Meaning}
use Rattle.lines.specs.Rows.{unlawful_unit, unlawful_cost, no_units}
use Rattle.lines.specs.Sizes.{unfit}
use Rattle.lines.specs.Totals.{all_quantities, alike}
use Rattle.bill_rules.specs.Bill.{Figures, Lengths, bill}

pub record Book : Type 0 where
  pub sizes : Sizes
  pub number : ℕ
  pub units : ℕ
  pub costs : ℕ
  pub last_pass : ℕ

pub record Pass : Type 0 where
  pub book : ℕ
  pub contributor : ℕ
  pub mark : ℕ

abbrev pub unmarked : List ℕ → Bool
unmarked marks = not (length marks == contributors)

-- opening

abbrev pub open_refusal : Sizes → List ℕ → Option Refusal
open_refusal z marks = first_of ((unfit z, SizeOutOfRange) ∷ (unmarked marks, TableUnfit) ∷ [])

abbrev pub new_book : Sizes → ℕ → Book
new_book z number = record { sizes = z; number = number; units = 0; costs = 0; last_pass = 0 }

-- contributors

abbrev pub admit_refusal : Book → List ℕ → ℕ → Option Refusal
admit_refusal b marks c = first_of (
    (unmarked marks, TableUnfit) ∷
    (nat_le contributors c, UnknownContributor) ∷
    (not (slice_index marks c == 0), AlreadyAdmitted) ∷
    ((b.last_pass == last_pass_number), PassNumbersUsedUp) ∷ [])

abbrev pub with_last_pass : Book → ℕ → Book
with_last_pass b n = record { sizes = b.sizes; number = b.number; units = b.units; costs = b.costs; last_pass = n }

abbrev pub new_pass : Book → ℕ → Pass
new_pass b c = record { book = b.number; contributor = c; mark = b.last_pass + 1 }

abbrev pub remove_refusal : List ℕ → ℕ → Option Refusal
remove_refusal marks c = first_of (
    (unmarked marks, TableUnfit) ∷
    (nat_le contributors c, UnknownContributor) ∷
    ((slice_index marks c == 0), NotAdmitted) ∷ [])

abbrev pub valid : Book → List ℕ → Pass → Bool
valid b marks p = p.book == b.number && (nat_lt p.contributor contributors && slice_index marks p.contributor == p.mark)

abbrev pub hand_in_refusal : Book → List ℕ → Pass → Option Refusal
hand_in_refusal b marks p = first_of (
    (unmarked marks, TableUnfit) ∷
    (not (valid b marks p), PassNotValid) ∷ [])

-- at a frozen book no pass is valid
abbrev pub take_in_refusal : List ℕ → Refusal
take_in_refusal marks = cond (unmarked marks) TableUnfit PassNotValid

-- rows

abbrev pub post_tests : Book → List UnitRow → List ℕ → Pass → UnitRow → List (Bool × Refusal)
post_tests b units marks p u =
    (nat_lt (length units) b.units || unmarked marks, TableUnfit) ∷
    (not (valid b marks p), PassNotValid) ∷
    (unlawful_unit b.sizes u, FieldOutOfRange) ∷
    (nat_le (length units) b.units, TableFull) ∷
    (nat_lt most_amount (all_quantities (take b.units units) + u.quantity), SumTooLarge) ∷ []

abbrev pub post_refusal : Book → List UnitRow → List ℕ → Pass → UnitRow → Option Refusal
post_refusal b units marks p u = first_of (post_tests b units marks p u)

abbrev pub with_units : Book → ℕ → Book
with_units b n = record { sizes = b.sizes; number = b.number; units = n; costs = b.costs; last_pass = b.last_pass }

abbrev pub cost_tests : Book → List CostRow → List ℕ → Pass → CostRow → List (Bool × Refusal)
cost_tests b costs marks p r =
    (nat_lt (length costs) b.costs || unmarked marks, TableUnfit) ∷
    (not (valid b marks p), PassNotValid) ∷
    (unlawful_cost b.sizes r, FieldOutOfRange) ∷
    (nat_le (length costs) b.costs, TableFull) ∷
    (nat_lt most_amount (alike r (take b.costs costs) + r.amount), SumTooLarge) ∷ []

abbrev pub cost_refusal : Book → List CostRow → List ℕ → Pass → CostRow → Option Refusal
cost_refusal b costs marks p r = first_of (cost_tests b costs marks p r)

abbrev pub with_costs : Book → ℕ → Book
with_costs b n = record { sizes = b.sizes; number = b.number; units = b.units; costs = n; last_pass = b.last_pass }

abbrev pub with_quantity : UnitRow → ℕ → UnitRow
with_quantity u q = record { customer = u.customer; day = u.day; hour = u.hour; subzone = u.subzone; usage = u.usage; quantity = q }

abbrev pub corrected : List UnitRow → ℕ → ℕ → List UnitRow
corrected units at q = slice_set units at (with_quantity (slice_index_or units at no_units) q)

-- the sum counts the corrected row by its new quantity
abbrev pub correct_tests : Book → List UnitRow → List ℕ → Pass → ℕ → ℕ → List (Bool × Refusal)
correct_tests b units marks p at q =
    (nat_lt (length units) b.units || unmarked marks, TableUnfit) ∷
    (not (valid b marks p), PassNotValid) ∷
    (nat_lt most_amount q, FieldOutOfRange) ∷
    (nat_le b.units at, NoSuchRow) ∷
    (nat_lt most_amount (all_quantities (corrected (take b.units units) at q)), SumTooLarge) ∷ []

abbrev pub correct_refusal : Book → List UnitRow → List ℕ → Pass → ℕ → ℕ → Option Refusal
correct_refusal b units marks p at q = first_of (correct_tests b units marks p at q)

-- freezing and billing

abbrev pub outstanding : List ℕ → Bool
outstanding [] = false
outstanding (m ∷ ms) = not (m == 0) || outstanding ms

abbrev pub freeze_refusal : List ℕ → Option Refusal
freeze_refusal marks = first_of (
    (unmarked marks, TableUnfit) ∷
    (outstanding marks, PassOutstanding) ∷ [])

abbrev pub short_tables : Book → List UnitRow → List CostRow → Bool
short_tables b units costs = nat_lt (length units) b.units || nat_lt (length costs) b.costs

abbrev pub book_bill : Meaning → ℕ → Book → List UnitRow → List CostRow → Lengths → Result Figures Refusal
book_bill m n b units costs p =
    cond (short_tables b units costs) (Err TableUnfit) (bill m n b.sizes (take b.units units) (take b.costs costs) p)
