use Rattle.std.proofs.Common.{◌≡◌, ℕ, List, vec_items, sym, ap, ◌∙◌, subst}
use Rattle.unit_file.specs.Records.{item_of}
use Rattle.unit_file.specs.Reading.{place_in_order}
use Rattle.unit_file.proofs.Walk.{at_record}
use Rattle.unit_text.proofs.Growing.{Growing, growing_more}
use Rattle.unit_text.proofs.listing.push_records.Goals as goal

pub loop-record-preserved : goal.loop-record-preserved
loop-record-preserved c =
    let bs : List ℕ = c.args.bytes.now in
    let place : ℕ = c.loop-record.reader.place in
    let same = c.loop-record.invariant.0 in
    let read = at_record bs c.loop-record.reader.bytes.now place c.in_ok-record.field-0 c.in-Some.record same c.in_ok-record.ensures.answers c.in-Some.is in
    let next : c.next_in_order.new.self.place ≡ place_in_order bs place = c.in_ok-record.ensures.place ∙ ap (λ (xs : List ℕ). place_in_order xs place) same in (
      c.in_ok-record.ensures.bytes ∙ same,
      subst (λ (p : ℕ). Growing bs p (vec_items c.args.text.now) (vec_items c.push_line.new.text)) (sym next)
          (growing_more bs place (vec_items c.args.text.now) (vec_items c.loop-record.text) (vec_items c.push_line.new.text) (item_of c.in-Some.record) c.loop-record.invariant.1 read c.in_ok-push_line.ensures),
    )
