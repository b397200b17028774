use Rattle.std.proofs.Common.{◌≡◌, ℕ, ◌∷◌, [], Bor, ◌++◌, map, vec_items, ap, ◌∙◌, sym, append_assoc, rules}
use Rattle.std.specs.List.{flat_map}
use Rattle.std.specs.Slice.Iter.{iter_rest}
use Rattle.std.specs.Iterator.Adapters.{zip_second}
use Rattle.std.proofs.Output.{has_written_append, has_written_of_eq}
use Rattle.std.proofs.lemmas.List.{flat_map_more, map-append}
use Rattle.std.proofs.lemmas.Iterator.{YieldsList-from_slice, YieldsList-from_zip}
use Rattle.std.proofs.lemmas.Iterator.Consumers.{YieldsList-at, YieldsList-end, YieldsList-from_enumerate}
use Rattle.share_report.specs.Report.{head_of, row, sum_text, left_text}
use Rattle.share_report.proofs.table.TableDisplay.fmt.Goals as goal

-- an entry of the iterator by its values
abbrev entry : ℕ × (Bor ℕ × (Bor ℕ × Bor ℕ)) → ℕ × (ℕ × (ℕ × ℕ))
entry p = (p.0, (p.1.0.now, (p.1.1.0.now, p.1.1.1.now)))

pub loop-customer-preserved : goal.loop-customer-preserved
loop-customer-preserved g c = λ plain.
    let next : ℕ × (Bor ℕ × (Bor ℕ × Bor ℕ)) = (c.in-Some.customer, (c.in-Some.units, (c.in-Some.down, c.in-Some.running))) in
    let rows = map entry c.loop-customer.yielded in
    has_written_of_eq _ _ _ _ _
    (flat_map_more row (head_of c.args.self.now.pool) rows (entry next) ∙ ap (λ es. head_of c.args.self.now.pool ++ flat_map row es) (sym (map-append entry c.loop-customer.yielded (next ∷ []))))
    (has_written_append _ _ _ _ _ _ (c.loop-customer.invariant plain) (search rules))

pub returns-clause-writes : goal.returns-clause-writes
returns-clause-writes g c = λ plain ok.
    let t = c.args.self.now in
    let second : iter_rest (zip_second c.zip-shares.result) ≡ vec_items t.running.column = c.zip-shares.ensures.second.0 in
    let seen = YieldsList-end
    (YieldsList-at c.into_iter-customer-iterator.ensures.into_iter_gives
    (YieldsList-from_enumerate
    (YieldsList-at c.enumerate-customer-items.ensures.source
    (YieldsList-from_zip (YieldsList-from_slice t.units.now cc) (YieldsList-at c.zip.ensures.second (YieldsList-from_zip (YieldsList-from_slice (vec_items t.down.column) cc) (YieldsList-from_slice (vec_items t.running.column) second)))))
    c.enumerate-customer-items.ensures.count))
    c.loop-customer.yielded c.loop-customer.customer-iterator c.loop-customer.yielded_by _ c.next.new.self c.in-None.is c.next.ensures.steps in
    let sums = sum_text t.down.division.units t.down.division.shares t.running.division.shares in
    let left = left_text t.down.division.left t.running.division.left in
    let rows = head_of t.pool ++ flat_map row (map entry c.loop-customer.yielded) in
    has_written_of_eq _ _ _ _ _ (append_assoc rows sums left ∙ ap (λ es. (head_of t.pool ++ flat_map row es) ++ (sums ++ left)) seen.0)
    (has_written_append _ _ _ _ left _ (has_written_append _ _ _ _ sums c.writeln-2.new.self (c.loop-customer.invariant plain) (search rules)) (search rules))
