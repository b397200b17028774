-- What the program `bill` answers to a line, a rule and a unit file.
--   charge_word            the head of the charge column: on line 7 what customers receive
--   net_of                 charge and station charge less credit
--   row_text, row_of       a row of the table, and that of one customer
--   head_of                what stands before the rows
--   sum_text               the totals
--   balance_text           the balance against the costs
--   table_of               the table of a bill
--   refused_line           the line for a refusal
--   report_of              whether the bill is accepted, and the table or the line
use Rattle.std.specs.Prelude.{ℕ, Bool, true, false, cond, List, ◌++◌, length, ℤ, pos, ◌+ℤ◌, ◌-ℤ◌, Ok, Err, codes, decimal, sum, Result, ◌==◌, slice_index}
use Rattle.std.specs.List.{range_with_len, flat_map}
use Rattle.std.specs.Fmt.{signed_decimal}
use Rattle.tariff.specs.declared.refusal.Refusal.{Refusal}
use Rattle.tariff.specs.declared.rows.Sizes.{Sizes}
use Rattle.tariff.specs.Refusals.{words as refusal_words}
use Rattle.sharing.specs.declared.names.RuleName.{RuleName}
use Rattle.sharing.specs.Names.{meaning_of, rule_word}
use Rattle.lines.specs.Totals.{line_costs}
use Rattle.bill_rules.specs.Bill.{Figures, Lengths}
use Rattle.book_rules.specs.Machine.{book_bill}
use Rattle.book_rules.specs.Run.{State}
use Rattle.settling.specs.Settling.{file_sizes}
use Rattle.bill_report.specs.Settling.{settled}

abbrev pub charge_word : ℕ → List ℕ
charge_word n = cond (n == 7) (codes "receives") (codes "charge")

abbrev pub net_of : ℕ → ℕ → ℕ → ℤ
net_of charge station credit = (pos charge +ℤ pos station) -ℤ pos credit

abbrev pub row_text : ℕ → ℕ → ℕ → ℕ → List ℕ
row_text customer charge station credit =
    decimal customer ++ (codes " " ++ (decimal charge ++ (codes " " ++ (decimal station ++ (codes " " ++ (decimal credit ++ (codes " " ++ (signed_decimal (net_of charge station credit) ++ codes "\n"))))))))

abbrev pub row_of : List ℕ → List ℕ → List ℕ → ℕ → List ℕ
row_of charges stations credits k = row_text k (slice_index charges k) (slice_index stations k) (slice_index credits k)

abbrev pub head_of : ℕ → RuleName → List ℕ
head_of n rule =
    codes "line " ++ (decimal n ++ (codes " by " ++ (rule_word rule ++ (codes ", in cents\ncustomer " ++ (charge_word n ++ codes " station credit net\n")))))

abbrev pub sum_text : ℕ → ℕ → ℕ → List ℕ
sum_text charge station credit =
    codes "sum " ++ (decimal charge ++ (codes " " ++ (decimal station ++ (codes " " ++ (decimal credit ++ (codes " " ++ (signed_decimal (net_of charge station credit) ++ codes "\n")))))))

-- what is short, over and stranded beside the net sum, and the costs
abbrev pub balance_text : ℤ → ℤ → ℤ → ℕ → List ℕ
balance_text short over stranded all =
    codes "net sum + short " ++ (signed_decimal short ++ (codes " - over " ++ (signed_decimal over ++ (codes " + stranded " ++ (signed_decimal stranded ++ (codes " = costs " ++ (decimal all ++ codes "\n")))))))

abbrev pub table_of : ℕ → RuleName → ℕ → Figures → List ℕ
table_of n rule all f =
    (head_of n rule ++ flat_map (row_of f.charges f.stations f.credits) (range_with_len 0 (length f.charges)))
    ++ (sum_text (sum f.charges) (sum f.stations) (sum f.credits) ++ balance_text f.short f.over f.stranded all)

abbrev pub refused_line : Refusal → List ℕ
refused_line e = codes "bill: " ++ (refusal_words e ++ codes "\n")

abbrev pub by_bill : ℕ → RuleName → ℕ → Result Figures Refusal → Bool × List ℕ
by_bill n rule all (Err e) = (false, refused_line e)
by_bill n rule all (Ok f) = (true, table_of n rule all f)

abbrev pub evenly : ℕ → Lengths
evenly customers = record { charges = customers; stations = customers; credits = customers }

-- the bill of a settled book; the free rows of its cost table hold no costs
abbrev pub by_state : ℕ → RuleName → ℕ → Result State Refusal → Bool × List ℕ
by_state n rule customers (Err e) = (false, refused_line e)
by_state n rule customers (Ok s) =
    by_bill n rule (line_costs n s.costs) (book_bill (meaning_of rule) n s.book s.units s.costs (evenly customers))

abbrev pub by_sizes : ℕ → RuleName → List ℕ → Result Sizes Refusal → Bool × List ℕ
by_sizes n rule bs (Err e) = (false, refused_line e)
by_sizes n rule bs (Ok z) = by_state n rule z.customers (settled z bs)

abbrev pub report_of : ℕ → RuleName → List ℕ → Bool × List ℕ
report_of n rule bs = by_sizes n rule bs (file_sizes bs)
