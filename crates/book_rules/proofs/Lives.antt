-- The laws of a book's life, of every book as opening leaves it. Assumes nothing.
use Rattle.std.proofs.Common.{◌≡◌, ℕ, false, not, eqb, sym, refl, ap, ◌∙◌, subst}
use Rattle.std.proofs.lemmas.Bool.{or_parts, eqb-true, not-false}
use Rattle.tariff.specs.declared.rows.Sizes.{Sizes}
use Rattle.bill_rules.specs.Bill.{Lengths, misfit, bill as line_bill}
use Rattle.bill_rules.specs.Laws.{LawfulRows}
use Rattle.bill_rules.proofs.Agreement.{laws_of_billing}
use Rattle.book_rules.specs.Run.{State, told_bill, units_in, costs_in, at_opening}
use Rattle.book_rules.specs.Laws.{past, Alike, LawsOfALife}
use Rattle.book_rules.proofs.Follows.{rows_lawful, bill_follows, follows}
use Rattle.book_rules.proofs.Voids.{powerless}

-- columns that fit have one length
record Fitting (z : Sizes) (p : Lengths) : Type 0 where
  charges_fit : p.charges ≡ z.customers
  stations_fit : p.stations ≡ z.customers
  credits_fit : p.credits ≡ z.customers

fitting : (z : Sizes) (p : Lengths) → misfit z p ≡ false → Fitting z p
fitting z p h =
    let a = or_parts (not (eqb p.charges z.customers)) _ h in
    let b = or_parts (not (eqb p.stations z.customers)) _ a.1 in
    record {
      charges_fit = eqb-true _ _ (not-false (eqb p.charges z.customers) a.0);
      stations_fit = eqb-true _ _ (not-false (eqb p.stations z.customers) b.0);
      credits_fit = eqb-true _ _ (not-false (eqb p.credits z.customers) b.1);
    }

lengths_of : ℕ → ℕ → ℕ → Lengths
lengths_of charges stations credits = record { charges = charges; stations = stations; credits = credits }

same_lengths : (z : Sizes) (p q : Lengths) → Fitting z p → Fitting z q → p ≡ q
unfolding lengths_of
same_lengths z p q f g =
    ap (λ x. lengths_of x p.stations p.credits) (f.charges_fit ∙ sym g.charges_fit)
    ∙ ap (λ x. lengths_of q.charges x p.credits) (f.stations_fit ∙ sym g.stations_fit)
    ∙ ap (λ x. lengths_of q.charges q.stations x) (f.credits_fit ∙ sym g.credits_fit)

module _ (s t : State) (no_units : s.book.units ≡ 0) (no_costs : s.book.costs ≡ 0) (no_units' : t.book.units ≡ 0) (no_costs' : t.book.costs ≡ 0) where
  alike : Alike s t
  alike before before' rule n p p' sizes _ _ on on' fits fits' agree =
      let z = s.book.sizes in
      let us = units_in (past s before) in
      let cs = costs_in (past s before) in
      let us' = units_in (past t before') in
      let cs' = costs_in (past t before') in
      let lawful' : LawfulRows z us' cs' = subst (λ (x : Sizes). LawfulRows x us' cs') (sym sizes) (rows_lawful t no_units' no_costs' before') in
      let fits-z : misfit z p' ≡ false = ap (λ (x : Sizes). misfit x p') sizes ∙ fits' in
      let lengths : p ≡ p' = same_lengths z p p' (fitting z p fits) (fitting z p' fits-z) in
      bill_follows s no_units no_costs before rule n p on
      ∙ ap told_bill (laws_of_billing.agreement rule.meaning rule.lawful n z us us' cs cs' p (rows_lawful s no_units no_costs before) lawful' agree)
      ∙ ap (λ (q : Lengths). told_bill (line_bill rule.meaning n z us' cs' q)) lengths
      ∙ ap (λ (x : Sizes). told_bill (line_bill rule.meaning n x us' cs' p')) sizes
      ∙ sym (bill_follows t no_units' no_costs' before' rule n p' on')

-- a book without rows, whatever the tables hold, lives by the laws
pub life : (s : State) → s.book.units ≡ 0 → s.book.costs ≡ 0 → LawsOfALife s
life s no_units no_costs = record {
  bills_follow_the_rows = follows s no_units no_costs;
  agreeing_books_bill_alike = λ z number units costs marks _. alike s (at_opening z number units costs) no_units no_costs refl refl;
  a_voided_pass_leaves_no_trace = powerless s;
}
