-- A bill of equal rows into columns of one place a customer. Assumes nothing.
use Rattle.std.proofs.Common.{◌≡◌, ℕ, List, ap, ◌∙◌}
use Rattle.tariff.specs.declared.rows.UnitRow.{UnitRow}
use Rattle.tariff.specs.declared.rows.CostRow.{CostRow}
use Rattle.sharing.specs.Rule.{Meaning}
use Rattle.bill_rules.specs.Bill.{Lengths}
use Rattle.book_rules.specs.Machine.{Book, book_bill}
use Rattle.line_rows.proofs.Answering.{lengths}
use Rattle.bill_report.specs.Report.{evenly}

pub same_bill : (m : Meaning) (n : ℕ) (b : Book) (us us' : List UnitRow) (cs cs' : List CostRow) (x y w k : ℕ) → us ≡ us' → cs ≡ cs' → x ≡ k → y ≡ k → w ≡ k → book_bill m n b us cs (record { charges = x; stations = y; credits = w }) ≡ book_bill m n b us' cs' (evenly k)
same_bill m n b us us' cs cs' x y w k p q ex ey ew =
    let places : Lengths = record { charges = x; stations = y; credits = w } in
    ap (λ l. book_bill m n b l cs places) p ∙ ap (λ l. book_bill m n b us' l places) q ∙ ap (book_bill m n b us' cs') (lengths x y w k ex ey ew)
