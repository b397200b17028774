use Rattle.std.proofs.Common.{◌++◌, length, sym, ap, ◌∙◌, arith, rules}
use Rattle.std.specs.List.{range_with_len, flat_map}
use Rattle.std.proofs.lemmas.Iterator.{YieldsList-from_slice, YieldsList-from_zip}
use Rattle.std.proofs.lemmas.Iterator.Consumers.{YieldsList-at, YieldsList-from_enumerate, YieldsList-turn}
use Rattle.std.proofs.lemmas.List.{length_push}
use Rattle.line_rows.specs.Rows.{row_unless, customer_row}
use Rattle.line_rows.proofs.Texts.{row_next}
use Rattle.line_rows.proofs.rows.push_customers.Goals as goal

pub loop-customer-preserved : goal.loop-customer-preserved
loop-customer-preserved c =
    let s = c.args.columns.now in
    let f = customer_row c.args.line s.charges.now s.stations.now s.credits.now in
    let pairs = YieldsList-from_zip (YieldsList-at c.zip.ensures.first (YieldsList-from_slice s.charges.now cc)) (YieldsList-at c.zip.ensures.second (YieldsList-from_slice s.stations.now cc)) in
    let triples = YieldsList-from_zip (YieldsList-at c.zip-figures.ensures.first pairs) (YieldsList-at c.zip-figures.ensures.second (YieldsList-from_slice s.credits.now cc)) in
    let turns = YieldsList-at c.into_iter-customer-iterator.ensures.into_iter_gives (YieldsList-from_enumerate (YieldsList-at c.enumerate-customer-items.ensures.source triples) c.enumerate-customer-items.ensures.count) in
    let turn = YieldsList-turn turns c.loop-customer.yielded c.loop-customer.customer-iterator c.loop-customer.yielded_by _ c.next.new.self (c.in-Some.customer, ((c.in-Some.charge, c.in-Some.station), c.in-Some.credit)) c.in-Some.is c.next.ensures.steps in
    let next = row_next c.args.line s.charges.now s.stations.now s.credits.now (length c.loop-customer.yielded) (c.in-Some.customer, ((c.in-Some.charge.now, c.in-Some.station.now), c.in-Some.credit.now)) turn in
    let more = length_push c.loop-customer.yielded (c.in-Some.customer, ((c.in-Some.charge, c.in-Some.station), c.in-Some.credit)) in (
      search rules,
      search rules,
      c.push_customer.ensures.pushed ∙ ap (λ t. t ++ row_unless c.args.line c.in-Some.customer c.in-Some.charge.now c.in-Some.station.now c.in-Some.credit.now) c.loop-customer.invariant.2 ∙ next ∙ ap (λ k. flat_map f (range_with_len 0 k)) (sym more),
      omega (arith, more, c.push_customer.ensures.near, c.loop-customer.invariant.3),
    )
