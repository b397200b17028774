-- The answer of a bill as its caller reads it. Assumes nothing.
use Rattle.std.proofs.Common.{◌≡◌, ℕ, Bool, true, false, cond, List, Ok, Err, Result, sym, ap, ◌∙◌, arith}
use Rattle.tariff.specs.declared.refusal.Refusal.{Refusal}
use Rattle.bill_rules.specs.declared.Remainders.{Remainders}
use Rattle.bill_rules.specs.Bill.{Figures, Lengths}
use Rattle.tariff.specs.declared.rows.UnitRow.{UnitRow}
use Rattle.tariff.specs.declared.rows.CostRow.{CostRow}
use Rattle.sharing.specs.Rule.{Meaning}
use Rattle.book_rules.specs.Machine.{Book, book_bill}
use Rattle.line_rows.specs.Rows.{book_columns}
use Rattle.book_rules.specs.Run.{State, Outcome, billed, refused, told_bill}

abbrev pub figured : List ℕ → List ℕ → List ℕ → Remainders → Figures
figured charges stations credits left = record { charges = charges; stations = stations; credits = credits; short = left.short; over = left.over; stranded = left.stranded }

pub lengths : (a b c n : ℕ) → a ≡ n → b ≡ n → c ≡ n → ◌≡◌ {A = Lengths} (record { charges = a; stations = b; credits = c }) (record { charges = n; stations = n; credits = n })
lengths a b c n p q r = cc

pub figured_same : (x y w x' y' w' : List ℕ) (r : Remainders) → x ≡ x' → y ≡ y' → w ≡ w' → ◌≡◌ {A = Result Figures Refusal} (Ok (figured x y w r)) (Ok (figured x' y' w' r))
figured_same x y w x' y' w' r p q s = ap (λ k. Ok (figured k y w r)) p ∙ ap (λ k. Ok (figured x' k w r)) q ∙ ap (λ k. Ok (figured x' y' k r)) s

-- what an accepted and a refused bill of a book tell of it
pub billed_tells : (b : Result Figures Refusal) (f : Figures) → told_bill b ≡ billed f → Ok f ≡ b
billed_tells (Ok g) f h = cc
billed_tells (Err e) f h = let z : ◌≡◌ {A = ℕ} 0 1 = cc in absurd (omega arith)

pub refused_tells : (b : Result Figures Refusal) (e : Refusal) → told_bill b ≡ refused e → Err e ≡ b
refused_tells (Ok g) e h = let z : ◌≡◌ {A = ℕ} 0 1 = cc in absurd (omega arith)
refused_tells (Err d) e h = cc

-- the same of columns that fit the book
module _ (m : Meaning) (n : ℕ) (b : Book) (us : List UnitRow) (cs : List CostRow) (p : Lengths) (x : p.charges ≡ b.sizes.customers) (y : p.stations ≡ b.sizes.customers) (w : p.credits ≡ b.sizes.customers) where
  same_columns : book_bill m n b us cs p ≡ book_bill m n b us cs (book_columns b)
  same_columns = ap (book_bill m n b us cs) (lengths p.charges p.stations p.credits b.sizes.customers x y w)

  pub accepted_is : (s : State) (f : Figures) → ◌≡◌ {A = Outcome} (record { state = s; answer = told_bill (book_bill m n b us cs p) }) (record { state = s; answer = billed f }) → Ok f ≡ book_bill m n b us cs (book_columns b)
  accepted_is s f h = billed_tells (book_bill m n b us cs p) f (ap (λ (o : Outcome). o.answer) h) ∙ same_columns

  pub refused_is : (s : State) (e : Refusal) → ◌≡◌ {A = Outcome} (record { state = s; answer = told_bill (book_bill m n b us cs p) }) (record { state = s; answer = refused e }) → Err e ≡ book_bill m n b us cs (book_columns b)
  refused_is s e h = refused_tells (book_bill m n b us cs p) e (ap (λ (o : Outcome). o.answer) h) ∙ same_columns

-- an accepted bill of a book is the bill of its counted rows
pub counted_rows : (short : Bool) (e : Refusal) (b : Result Figures Refusal) (f : Figures) → Ok f ≡ cond short (Err e) b → b ≡ Ok f
counted_rows true e b f h = let z : ◌≡◌ {A = ℕ} 0 1 = cc in absurd (omega arith)
counted_rows false e b f h = sym h
