use Rattle.std.proofs.Common.{◌≡◌, ◌≤◌, ◌+◌, length, string_bytes, ◌++◌, drop, slice_index, inl, inr, sym, ap, ◌∙◌, arith, SFits, rules}
use mir.Syntax.{w128}
use Rattle.std.proofs.lemmas.Int.{to_z-of_z}
use Rattle.std.specs.Iterator.Adapters.{enumerate_count}
use Rattle.std.specs.List.{range_with_len, flat_map}
use Rattle.bill_report.specs.Report.{net_of, row_of, row_text}
use Rattle.bill_report.proofs.Columns.{turned, passed}
use Rattle.bill_report.proofs.TextLaws.{rows_more}
use Rattle.bill_report.proofs.report.write_rows.Goals as goal

pub loop-customer-preserved : goal.loop-customer-preserved
loop-customer-preserved c =
    let f = c.args.figured.now in
    let row = row_of f.charges.items f.stations.items f.credits.items in
    let n = enumerate_count c.loop-customer.customer-iterator in
    let step = c.in-Some.ensures.steps in
    let x = turned f.charges.items _ _ n _ c.loop-customer.invariant.charges step.0.0.0 in
    let y = turned f.stations.items _ _ n _ c.loop-customer.invariant.stations step.0.0.1 in
    let z = turned f.credits.items _ _ n _ c.loop-customer.invariant.credits step.0.1 in
    let m : enumerate_count c.next.new.self ≡ n + 1 = step.2 in
    let fits : SFits w128 c.net-net.result = search rules in
    let net : c.net-net.result ≡ net_of c.in-Some.charge.now c.in-Some.station.now c.in-Some.credit.now = cc in
    let made = simp to_z-of_z at c.in_ok-writeln.ensures.bytes in
    let put : string_bytes c.writeln.new.self ≡ string_bytes c.loop-customer.text ++ row_text c.in-Some.customer c.in-Some.charge.now c.in-Some.station.now c.in-Some.credit.now = simp net at made in
    let k : c.in-Some.customer ≡ n = step.1 in
    let same : row_text c.in-Some.customer c.in-Some.charge.now c.in-Some.station.now c.in-Some.credit.now ≡ row n =
    ap (λ i. row_text i c.in-Some.charge.now c.in-Some.station.now c.in-Some.credit.now) k ∙ ap (λ i. row_text n i c.in-Some.station.now c.in-Some.credit.now) x.1
    ∙ ap (λ i. row_text n (slice_index f.charges.items n) i c.in-Some.credit.now) y.1 ∙ ap (row_text n (slice_index f.charges.items n) (slice_index f.stations.items n)) z.1 in
    let before = string_bytes c.args.text.now in
    record {
      within = omega arith;
      charges = x.2 ∙ ap (λ j. drop j f.charges.items) (sym m);
      stations = y.2 ∙ ap (λ j. drop j f.stations.items) (sym m);
      credits = z.2 ∙ ap (λ j. drop j f.credits.items) (sym m);
      written =
          rows_more row before _ _ n c.loop-customer.invariant.written (put ∙ ap (λ t. string_bytes c.loop-customer.text ++ t) same)
          ∙ ap (λ j. before ++ flat_map row (range_with_len 0 j)) (sym m);
    }

pub returns : goal.returns
returns c =
    let f = c.args.figured.now in
    let i = c.loop-customer.invariant in
    let n = enumerate_count c.loop-customer.customer-iterator in
    let end : length f.charges.items ≤ n = elim c.in-None.ensures.steps.0 [
      | inl (_, inl (_, none)) ↦ passed f.charges.items _ n i.charges none.0
      | inl (_, inr (_, none)) ↦ omega (arith, passed f.stations.items _ n i.stations none.0)
      | inr (_, none) ↦ omega (arith, passed f.credits.items _ n i.credits none.0)
    ] in
    let e : n ≡ length f.charges.items = omega arith in
    i.written ∙ ap (λ k. string_bytes c.args.text.now ++ flat_map (row_of f.charges.items f.stations.items f.credits.items) (range_with_len 0 k)) e
