-- The rows of a statement for one line, from the figures of its bill.
--   field, signed_field    a figure behind a space
--   row_text               a customer's row: line, customer, charge, station charge, credit
--   figureless             all three figures of a customer are 0
--   customer_row           the row of a customer, if it has a figure other than 0
--   sum_text               the row of the line's totals: line, `sum`, the three totals, short, over, stranded
--   line_text              the rows of a line: its customers' in rising order, and the sum
--   text_of                the rows of a bill, or its refusal
--   book_columns           columns with one place for each customer of a book
--   rows_of                the rows of a line's bill of a book, by a rule's meaning, or its refusal
--   text_refusal, text_in  why the rows of a bill are not written at a place of a buffer, and the rows
use Rattle.std.specs.Prelude.{ℕ, Bool, cond, ◌&&◌, List, [], ◌++◌, length, ℤ, Some, Ok, Err, codes, decimal, sum, Option, Result, ◌==◌, slice_index}
use Rattle.std.specs.List.{range_with_len, flat_map}
use Rattle.std.specs.Fmt.{signed_decimal}
use Rattle.tariff.specs.declared.refusal.Refusal.{Refusal}
use Rattle.tariff.specs.declared.rows.UnitRow.{UnitRow}
use Rattle.tariff.specs.declared.rows.CostRow.{CostRow}
use Rattle.sharing.specs.Rule.{Meaning}
use Rattle.buffer.specs.Putting.{put_refusal}
use Rattle.bill_rules.specs.Bill.{Figures, Lengths}
use Rattle.book_rules.specs.Machine.{Book, book_bill}

abbrev pub field : ℕ → List ℕ
field n = codes " " ++ decimal n

abbrev pub signed_field : ℤ → List ℕ
signed_field x = codes " " ++ signed_decimal x

abbrev pub row_text : ℕ → ℕ → ℕ → ℕ → ℕ → List ℕ
row_text n customer charge station credit =
    ((((decimal n ++ field customer) ++ field charge) ++ field station) ++ field credit) ++ codes "\n"

abbrev pub figureless : ℕ → ℕ → ℕ → Bool
figureless charge station credit = charge == 0 && (station == 0 && credit == 0)

abbrev pub row_unless : ℕ → ℕ → ℕ → ℕ → ℕ → List ℕ
row_unless n k charge station credit = cond (figureless charge station credit) [] (row_text n k charge station credit)

abbrev pub customer_row : ℕ → List ℕ → List ℕ → List ℕ → ℕ → List ℕ
customer_row n charges stations credits k = row_unless n k (slice_index charges k) (slice_index stations k) (slice_index credits k)

abbrev pub sum_text : ℕ → ℕ → ℕ → ℕ → ℤ → ℤ → ℤ → List ℕ
sum_text n charge station credit short over stranded =
    (((((((decimal n ++ codes " sum") ++ field charge) ++ field station) ++ field credit) ++ signed_field short) ++ signed_field over) ++ signed_field stranded) ++ codes "\n"

abbrev pub line_text : ℕ → Figures → List ℕ
line_text n f =
    flat_map (customer_row n f.charges f.stations f.credits) (range_with_len 0 (length f.charges))
    ++ sum_text n (sum f.charges) (sum f.stations) (sum f.credits) f.short f.over f.stranded

abbrev pub text_of : ℕ → Result Figures Refusal → Result (List ℕ) Refusal
text_of n (Ok f) = Ok (line_text n f)
text_of n (Err e) = Err e

abbrev pub book_columns : Book → Lengths
book_columns b = record { charges = b.sizes.customers; stations = b.sizes.customers; credits = b.sizes.customers }

-- the rows of a line's bill of a book, by a rule's meaning
abbrev pub rows_of : Meaning → ℕ → Book → List UnitRow → List CostRow → Result (List ℕ) Refusal
rows_of m n b units costs = text_of n (book_bill m n b units costs (book_columns b))

-- a bill's own refusal comes before that of a buffer too short
abbrev pub text_refusal : ℕ → ℕ → Result (List ℕ) Refusal → Option Refusal
text_refusal room place (Ok text) = put_refusal room place text
text_refusal room place (Err e) = Some e

abbrev pub text_in : Result (List ℕ) Refusal → List ℕ
text_in (Ok text) = text
text_in (Err e) = []
