use Rattle.std.proofs.Common.{◌≡◌, ◌+◌, true, false, length, get_or, take, sym, ap, arith, below_more}
use Rattle.tariff.specs.declared.refusal.Table.TheVariants.{Cost as CostTable}
use Rattle.tariff.specs.declared.refusal.Refusal.TheVariants.{UnlawfulRow}
use Rattle.tariff.specs.Refusals.{answer}
use Rattle.lines.specs.Checked.{sizes_of}
use Rattle.lines.specs.Totals.{alike}
use Rattle.lines.specs.Rows.{unlawful_cost, cost_fault, no_cost}
use Rattle.lines.proofs.Firsts.{first_at, first_none}
use Rattle.lines.proofs.Faults.{fault_by_field, fault_by_sum, no_fault}
use Rattle.lines.proofs.sizes.BookSizes.check_costs.Goals as goal
use Rattle.lines.proofs.sizes.BookSizes.check_costs.Goals.{then-not-allows_cost-via-then-not-allows_cost, then-not-allows_cost-via-else-not-allows_cost+then-alike_costs-from}

pub returns-then-not-allows_cost : goal.returns-then-not-allows_cost
returns-then-not-allows_cost c =
    let z = sizes_of c.args.self.now in
    let costs = c.args.costs.now in
    let i = c.loop-row.row in
    let unlawful = unlawful_cost z (get_or costs i no_cost) in
    let here : cost_fault z costs i ≡ true = elim c.then-not-allows_cost.branch [
      | then-not-allows_cost-via-then-not-allows_cost w ↦ fault_by_field unlawful _ _ c.allows_cost.ensures w.if-not-allows_cost.true
      | then-not-allows_cost-via-else-not-allows_cost+then-alike_costs-from w ↦
          let e : w.alike_costs.result ≡ alike (get_or costs i no_cost) (take (i + 1) costs) = w.alike_costs.ensures.sum in
          fault_by_sum unlawful _ (omega arith)
    ] in
    sym (ap (λ o. answer o tt) (first_at (cost_fault z costs) (λ k. UnlawfulRow CostTable k) (length costs) i c.loop-row-test.true c.loop-row.invariant here))

pub loop-row-preserved : goal.loop-row-preserved
loop-row-preserved c =
    let z = sizes_of c.args.self.now in
    let costs = c.args.costs.now in
    let i = c.loop-row.row in
    let e : c.alike_costs.result ≡ alike (get_or costs i no_cost) (take (i + 1) costs) = c.alike_costs.ensures.sum in
    below_more (λ k. cost_fault z costs k ≡ false) i c.loop-row.invariant
    (no_fault (unlawful_cost z (get_or costs i no_cost)) _ _ c.allows_cost.ensures c.if-not-allows_cost.false (omega arith))

pub returns : goal.returns
returns c =
    sym (ap (λ o. answer o tt) (first_none (cost_fault (sizes_of c.args.self.now) c.args.costs.now) (λ k. UnlawfulRow CostTable k) (length c.args.costs.now)
    (λ k h. c.loop-row.invariant k (omega arith))))
