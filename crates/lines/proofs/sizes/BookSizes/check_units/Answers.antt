use Rattle.std.proofs.Common.{◌≡◌, ◌+◌, true, false, length, get_or, take, sym, ap, arith, below_more}
use Rattle.std.proofs.lemmas.List.Sums.{sum_by_more}
use Rattle.tariff.specs.declared.rows.UnitRow.{UnitRow}
use Rattle.tariff.specs.declared.refusal.Table.TheVariants.{Unit as UnitTable}
use Rattle.tariff.specs.declared.refusal.Refusal.TheVariants.{UnlawfulRow}
use Rattle.tariff.specs.Refusals.{answer}
use Rattle.lines.specs.Checked.{sizes_of}
use Rattle.lines.specs.Totals.{all_quantities}
use Rattle.lines.specs.Rows.{unlawful_unit, unit_fault, no_units}
use Rattle.lines.proofs.Firsts.{first_at, first_none}
use Rattle.lines.proofs.Faults.{fault_by_field, fault_by_sum, no_fault}
use Rattle.lines.proofs.sizes.BookSizes.check_units.Goals as goal
use Rattle.lines.proofs.sizes.BookSizes.check_units.Goals.{then-not-allows_unit-via-then-not-allows_unit, then-not-allows_unit-via-else-not-allows_unit+then-sum-from}

pub returns-then-not-allows_unit : goal.returns-then-not-allows_unit
returns-then-not-allows_unit c =
    let z = sizes_of c.args.self.now in
    let units = c.args.units.now in
    let i = c.loop-row.row in
    let up = sum_by_more (λ (u : UnitRow). u.quantity) units i no_units c.loop-row-test.true in
    let e : c.loop-row.sum + c.from-sum.result ≡ all_quantities (take (i + 1) units) = omega arith in
    let here : unit_fault z units i ≡ true = elim c.then-not-allows_unit.branch [
      | then-not-allows_unit-via-then-not-allows_unit w ↦ fault_by_field (unlawful_unit z (get_or units i no_units)) _ _ c.allows_unit.ensures w.if-not-allows_unit.true
      | then-not-allows_unit-via-else-not-allows_unit+then-sum-from w ↦ fault_by_sum (unlawful_unit z (get_or units i no_units)) _ (omega arith)
    ] in
    sym (ap (λ o. answer o tt) (first_at (unit_fault z units) (λ k. UnlawfulRow UnitTable k) (length units) i c.loop-row-test.true c.loop-row.invariant.2 here))

pub loop-row-preserved : goal.loop-row-preserved
loop-row-preserved c =
    let z = sizes_of c.args.self.now in
    let units = c.args.units.now in
    let i = c.loop-row.row in
    let up = sum_by_more (λ (u : UnitRow). u.quantity) units i no_units c.loop-row-test.true in
    let e : c.loop-row.sum + c.from-sum.result ≡ all_quantities (take (i + 1) units) = omega arith in (
      e,
      omega arith,
      below_more (λ k. unit_fault z units k ≡ false) i c.loop-row.invariant.2
          (no_fault (unlawful_unit z (get_or units i no_units)) _ _ c.allows_unit.ensures c.if-not-allows_unit.false (omega arith)),
    )

pub returns : goal.returns
returns c =
    sym (ap (λ o. answer o tt) (first_none (unit_fault (sizes_of c.args.self.now) c.args.units.now) (λ k. UnlawfulRow UnitTable k) (length c.args.units.now)
    (λ k h. c.loop-row.invariant.2 k (omega arith))))
