use Rattle.std.proofs.Common.{◌≡◌, ℕ, ◌+◌, ◌-◌, ◌<◌, List, length, get_or, Some, Ok, sym, ap, ◌∙◌, subst, arith, w8, Fits}
use Rattle.std.proofs.ByRecursion.{All-from_get_or}
use Rattle.std.proofs.lemmas.Result.{err_from_is_err_and}
use Rattle.unit_file.specs.Laws.{Rewritten}
use Rattle.unit_file.specs.Records.{item_of}
use Rattle.unit_file.specs.Reading.{ordered_at, place_in_order, counted}
use Rattle.unit_file.proofs.Walk.{Counting, counting_start, counting_more, counting_end, counting_refused, at_record, at_end_is, at_fault, advances, not_opened}
use Rattle.unit_file.proofs.RoundTrip.{rewritten}
use Rattle.unit_file.proofs.reader.check_file.Goals as goal

-- the law of the bytes at hand, each of which fits a byte
law : (bs : List ℕ) → ((i : ℕ) → Fits w8 (get_or bs i 0)) → Rewritten bs
law bs typed = rewritten bs (All-from_get_or (λ b. b < 256) bs 0 (λ i l. omega (arith, typed i)))

-- a turn that read a record: what stood there, and where the reader then stands
read : (c : goal.In-Some) → ordered_at c.args.bytes.now c.loop-count.reader.place ≡ Ok (Some (item_of c.in-Some.field-0))
read c = at_record c.args.bytes.now c.loop-count.reader.bytes.now c.loop-count.reader.place c.in_ok-next_in_order.field-0 c.in-Some.field-0 c.loop-count.invariant.0 c.in_ok-next_in_order.ensures.answers c.in-Some.is

next : (c : goal.In-Some) → c.next_in_order.new.self.place ≡ place_in_order c.args.bytes.now c.loop-count.reader.place
next c = c.in_ok-next_in_order.ensures.place ∙ ap (λ (bs : List ℕ). place_in_order bs c.loop-count.reader.place) c.loop-count.invariant.0

pub returns-in_err-reader : goal.returns-in_err-reader
returns-in_err-reader c = let p = err_from_is_err_and c.from_residual.result c.from_residual.ensures.1 in
    rw (p.1, p.2) (record { counts = ap counted (not_opened c.args.bytes.now c.in_err-reader.field-0.0 c.in_err-reader.ensures); rewritten = law c.args.bytes.now c.type_inv.bytes })

pub loop-count-init : goal.loop-count-init
loop-count-init c = let e = c.in_ok-reader.ensures in (e.1, rw e.2 (counting_start c.args.bytes.now e.0))

pub returns-in_err-next_in_order : goal.returns-in_err-next_in_order
returns-in_err-next_in_order c =
    let p = err_from_is_err_and c.from_residual-in_err-next_in_order.result c.from_residual-in_err-next_in_order.ensures.1 in
    let fault = at_fault c.args.bytes.now c.loop-count.reader.bytes.now c.loop-count.reader.place c.in_err-next_in_order.field-0.0 c.loop-count.invariant.0 c.in_err-next_in_order.ensures.answers in
    rw (p.1, p.2) (record { counts = counting_refused c.args.bytes.now c.loop-count.reader.place c.loop-count.count c.in_err-next_in_order.field-0.0 c.loop-count.invariant.1 fault; rewritten = law c.args.bytes.now c.type_inv.bytes })

pub overflow_add-count : goal.overflow_add-count
overflow_add-count c = let k = c.loop-count.invariant.1 in let f = k.few in let i = k.inside in omega arith

pub loop-count-smaller : goal.loop-count-smaller
loop-count-smaller c =
    let a = advances c.args.bytes.now c.loop-count.reader.place (item_of c.in-Some.field-0) (read c) in
    let p = a.1 in let q = a.2 in let e = next c in
    let falls : length c.args.bytes.now - c.next_in_order.new.self.place < length c.args.bytes.now - c.loop-count.reader.place = omega arith in falls

pub loop-count-preserved : goal.loop-count-preserved
loop-count-preserved c = (
  c.in_ok-next_in_order.ensures.bytes ∙ c.loop-count.invariant.0,
  subst (λ (p : ℕ). Counting c.args.bytes.now p (c.loop-count.count + 1)) (sym (next c)) (counting_more c.args.bytes.now c.loop-count.reader.place c.loop-count.count (item_of c.in-Some.field-0) c.loop-count.invariant.1 (read c)),
)

pub returns : goal.returns
returns c =
    record {
      counts = counting_end c.args.bytes.now c.loop-count.reader.place c.loop-count.count c.loop-count.invariant.1 (at_end_is c.args.bytes.now c.loop-count.reader.bytes.now c.loop-count.reader.place c.in_ok-next_in_order.field-0 c.loop-count.invariant.0 c.in_ok-next_in_order.ensures.answers c.in_default.is);
      rewritten = law c.args.bytes.now c.type_inv.bytes;
    }
