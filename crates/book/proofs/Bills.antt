-- What a bill answers and leaves is the machine's answer. Assumes nothing.
use Rattle.std.proofs.Common.{◌≡◌, ℕ, ◌≤◌, true, cond, ◌||◌, ltb, List, length, take, ℤ, Ok, Err, Result, sym, ap, ◌∙◌}
use Rattle.std.proofs.lemmas.Bool.{or_from, le-ltb}
use Rattle.tariff.specs.declared.refusal.Refusal.{Refusal}
use Rattle.tariff.specs.declared.refusal.Refusal.TheVariants.{TableUnfit}
use Rattle.tariff.specs.declared.rows.UnitRow.{UnitRow}
use Rattle.tariff.specs.declared.rows.CostRow.{CostRow}
use Rattle.sharing.specs.Rule.{Meaning}
use Rattle.bill_rules.specs.declared.Remainders.{Remainders}
use Rattle.bill_rules.specs.Bill.{Figures, Lengths, bill, told, column_after}
use Rattle.book_rules.specs.Machine.{Book, book_bill}
use Rattle.book_rules.specs.Run.{billed, told_bill}
use Rattle.book.specs.Told.{told_figures}

-- where the tables are long enough, the bill is that of the counted rows
pub counted_bill : (m : Meaning) (n : ℕ) (b : Book) (units : List UnitRow) (costs : List CostRow) (p : Lengths) (i j : ℕ) → b.units ≤ length units → b.costs ≤ length costs → i ≡ b.units → j ≡ b.costs →
    bill m n b.sizes (take i units) (take j costs) p ≡ book_bill m n b units costs p
counted_bill m n b units costs p i j us cs ie je =
    ap (λ k. bill m n b.sizes (take k units) (take j costs) p) ie
    ∙ ap (λ k. bill m n b.sizes (take b.units units) (take k costs) p) je
    ∙ sym (ap (λ t. cond t (Err TableUnfit) (bill m n b.sizes (take b.units units) (take b.costs costs) p))
    (or_from (ltb (length units) b.units) (ltb (length costs) b.costs) (le-ltb (length units) b.units us) (le-ltb (length costs) b.costs cs)))

-- where one is too short, the bill is refused for it
pub short_bill : (m : Meaning) (n : ℕ) (b : Book) (units : List UnitRow) (costs : List CostRow) (p : Lengths) → true ≡ (ltb (length units) b.units || ltb (length costs) b.costs) → book_bill m n b units costs p ≡ Err TableUnfit
short_bill m n b units costs p e = ap (λ t. cond t (Err TableUnfit) (bill m n b.sizes (take b.units units) (take b.costs costs) p)) (sym e)

figures_of : List ℕ → List ℕ → List ℕ → ℤ → ℤ → ℤ → Figures
figures_of charges stations credits short over stranded = record { charges = charges; stations = stations; credits = credits; short = short; over = over; stranded = stranded }

pub told_figures_is : (r : Result Figures Refusal) (a : Result Remainders Refusal) (charges stations credits c0 s0 k0 : List ℕ) → a ≡ told r →
    charges ≡ column_after r (λ f. f.charges) c0 → stations ≡ column_after r (λ f. f.stations) s0 → credits ≡ column_after r (λ f. f.credits) k0 → told_bill r ≡ told_figures a charges stations credits
unfolding figures_of
told_figures_is (Ok f) a charges stations credits c0 s0 k0 ea ec es ek =
    ap (λ l. billed (figures_of l f.stations f.credits f.short f.over f.stranded)) (sym ec)
    ∙ ap (λ l. billed (figures_of charges l f.credits f.short f.over f.stranded)) (sym es)
    ∙ ap (λ l. billed (figures_of charges stations l f.short f.over f.stranded)) (sym ek)
    ∙ ap (λ (x : Result Remainders Refusal). told_figures x charges stations credits) (sym ea)
told_figures_is (Err e) a charges stations credits c0 s0 k0 ea ec es ek = ap (λ (x : Result Remainders Refusal). told_figures x charges stations credits) (sym ea)
