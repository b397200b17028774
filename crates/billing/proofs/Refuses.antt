-- The refusals of a bill before it is worked out.
use Rattle.std.proofs.Common.{◌≡◌, ℕ, Bool, true, false, cond, not, ◌&&◌, ◌||◌, eqb, List, [], ◌∷◌, ◌++◌, length, get_or, is_some, is_err, IfOk, Some, None, Ok, Err, sum, Option, Result, sym, refl, ap, ◌∙◌, subst, arith}
use lib.Pointwise.{pointwise}
use Rattle.std.specs.Option.{ok_or}
use Rattle.std.proofs.lemmas.Result.{IfOk-from_err}
use Rattle.std.proofs.lemmas.Int.{ints}
use Rattle.std.proofs.lemmas.Bool.{or_parts, eqb-true, not-false}
use Rattle.tariff.specs.declared.refusal.Refusal.{Refusal}
use Rattle.tariff.specs.declared.refusal.Refusal.TheVariants.{TableUnfit, FieldOutOfRange}
use Rattle.tariff.specs.declared.rows.Sizes.{Sizes}
use Rattle.tariff.specs.declared.rows.UnitRow.{UnitRow}
use Rattle.tariff.specs.declared.rows.CostRow.{CostRow}
use Rattle.tariff.specs.Refusals.{first_of, answer}
use Rattle.lines.specs.declared.line.Line.{Line}
use Rattle.lines.specs.Lines.{line_of}
use Rattle.lines.specs.Totals.{line_costs}
use Rattle.lines.specs.Rows.{unit_faults, cost_faults}
use Rattle.lines.proofs.Firsts.{first_append, first_found}
use Rattle.sharing.specs.Rule.{Meaning, Lawful}
use Rattle.bill_rules.specs.declared.Remainders.{Remainders}
use Rattle.bill_rules.specs.Bill.{Figures, too_large_for, figures_for, Lengths, misfit, bill_refusal, bill, told, column_after}
use Rattle.bill_rules.specs.Laws.{Balanced}
use Rattle.bill_rules.proofs.Agreement.{bill_balances}
use Rattle.billing.specs.Work.{line_figures, lengths_of, Billable}

pub line_told : (o : Option Line) (l : Line) (e : Refusal) → Ok l ≡ ok_or o e → o ≡ Some l
line_told None l e h = let q : ◌≡◌ {A = ℕ} 0 1 = cc in absurd (omega arith)
line_told (Some x) l e h = cc

-- whether the columns have one place a customer each, as the code compares them
not_all : (x y w : Bool) → not (x && (y && (w && true))) ≡ (not x || (not y || not w))
not_all true true true = refl
not_all true true false = refl
not_all true false w = refl
not_all false y w = refl

compared : (ns : List ℕ) (n : ℕ) → length ns ≡ 3 → not (pointwise eqb ns (n ∷ n ∷ n ∷ [])) ≡ (not (eqb (get_or ns 0 0) n) || (not (eqb (get_or ns 1 0) n) || not (eqb (get_or ns 2 0) n)))
compared [] n three = absurd (omega arith)
compared (x ∷ []) n three = absurd (omega arith)
compared (x ∷ y ∷ []) n three = absurd (omega arith)
compared (x ∷ y ∷ w ∷ []) n three = not_all (eqb x n) (eqb y n) (eqb w n)
compared (x ∷ y ∷ w ∷ v ∷ rest) n three = absurd (omega arith)

pub misfit_is : (z : Sizes) (ns : List ℕ) (n : ℕ) (b : Bool) → length ns ≡ 3 → n ≡ z.customers → b ≡ not (pointwise eqb ns (n ∷ n ∷ n ∷ [])) → misfit z (lengths_of ns) ≡ b
misfit_is z ns n b three is e = sym (e ∙ compared ns n three ∙ ap (λ n. not (eqb (get_or ns 0 0) n) || (not (eqb (get_or ns 1 0) n) || not (eqb (get_or ns 2 0) n))) is)

same_yes : (x y : ℕ) → not (eqb x y) ≡ false → x ≡ y
same_yes x y h = eqb-true x y (not-false (eqb x y) h)

pub fitted : (z : Sizes) (p : Lengths) → misfit z p ≡ false → (p.charges ≡ z.customers) × (p.stations ≡ z.customers) × (p.credits ≡ z.customers)
fitted z p h =
    let a = or_parts (not (eqb p.charges z.customers)) _ h in
    let b = or_parts (not (eqb p.stations z.customers)) _ a.1 in
    (same_yes _ _ a.0, same_yes _ _ b.0, same_yes _ _ b.1)

past_both : (a b : Bool) (r q : Refusal) (rest : Option Refusal) → a ≡ false → b ≡ false → cond a (Some r) (cond b (Some q) rest) ≡ rest
past_both a b r q rest e f = rw (e, f) refl

module _ (n : ℕ) (l : Line) (z : Sizes) (us : List UnitRow) (cs : List CostRow) (p : Lengths) (is : line_of n ≡ Some l) (fits : misfit z p ≡ false) (m : Meaning) where
  to_rows : bill_refusal m n z us cs p ≡ first_of (unit_faults z us ++ (cost_faults z cs ++ too_large_for m (line_of n) z us cs))
  to_rows = past_both (misfit z p) (not (is_some (line_of n))) TableUnfit FieldOutOfRange _ fits (ap (λ o. not (is_some o)) is)

  pub found_unit : (e : Refusal) → first_of (unit_faults z us) ≡ Some e → bill_refusal m n z us cs p ≡ Some e
  found_unit e h = to_rows ∙ first_found (unit_faults z us) (cost_faults z cs ++ too_large_for m (line_of n) z us cs) e h

  pub found_cost : (e : Refusal) → first_of (unit_faults z us) ≡ None → first_of (cost_faults z cs) ≡ Some e → bill_refusal m n z us cs p ≡ Some e
  found_cost e none h =
      to_rows ∙ first_append (unit_faults z us) (cost_faults z cs ++ too_large_for m (line_of n) z us cs) none
      ∙ first_found (cost_faults z cs) (too_large_for m (line_of n) z us cs) e h

-- the bill of what is not refused so far
pub bill_is : (m : Meaning) (n : ℕ) (l : Line) (z : Sizes) (us : List UnitRow) (cs : List CostRow) (p : Lengths) → Billable n l z us cs p → bill m n z us cs p ≡ line_figures m l z us cs
bill_is m n l z us cs p b =
    ap (λ o. answer o (figures_for m (line_of n) z us cs))
    (to_rows n l z us cs p b.is b.fits m
    ∙ first_append (unit_faults z us) (cost_faults z cs ++ too_large_for m (line_of n) z us cs) b.lawful.units_lawful
    ∙ first_append (cost_faults z cs) (too_large_for m (line_of n) z us cs) b.lawful.costs_lawful)
    ∙ ap (λ o. answer (first_of (too_large_for m o z us cs)) (figures_for m o z us cs)) b.is

-- what a bill answers and leaves balances
module _ (m : Meaning) (law : Lawful m) (n : ℕ) (z : Sizes) (us : List UnitRow) (cs : List CostRow) (p : Lengths) (r : Result Remainders Refusal) (ch st cr ch' st' cr' : List ℕ) where
  pub told_balances : r ≡ told (bill m n z us cs p) → ch' ≡ column_after (bill m n z us cs p) (λ f. f.charges) ch → st' ≡ column_after (bill m n z us cs p) (λ f. f.stations) st → cr' ≡ column_after (bill m n z us cs p) (λ f. f.credits) cr →
      IfOk r (λ x. Balanced (sum ch') (sum st') (sum cr') x.short x.over x.stranded (line_costs n cs))
  told_balances = go (bill m n z us cs p) refl
    where
      go : (b : Result Figures Refusal) → bill m n z us cs p ≡ b → r ≡ told b → ch' ≡ column_after b (λ f. f.charges) ch → st' ≡ column_after b (λ f. f.stations) st → cr' ≡ column_after b (λ f. f.credits) cr →
          IfOk r (λ x. Balanced (sum ch') (sum st') (sum cr') x.short x.over x.stranded (line_costs n cs))
      go (Ok f) h er ec es ek =
          let b = bill_balances m law n z us cs p f h in
          let c = ap sum ec in
          let s = ap sum es in
          let k = ap sum ek in
          subst (λ r. IfOk r (λ x. Balanced (sum ch') (sum st') (sum cr') x.short x.over x.stranded (line_costs n cs))) (sym er) (omega (arith, ints))
      go (Err e) h er ec es ek = IfOk-from_err r _ (ap is_err er)
