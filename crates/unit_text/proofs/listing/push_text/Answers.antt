use Rattle.std.proofs.Common.{vec_items, string_bytes, sym, ap, ◌∙◌}
use Rattle.unit_file.specs.Records.{item_of}
use Rattle.unit_file.specs.declared.record.Record.{Record}
use Rattle.unit_text.specs.Lines.{text_of}
use Rattle.unit_text.proofs.Growing.{made_same}
use Rattle.unit_text.proofs.listing.push_text.Goals as goal

pub returns-in_ok-header_text-in-Header : goal.returns-in_ok-header_text-in-Header
returns-in_ok-header_text-in-Header c = made_same c.push_string.result (vec_items c.args.text.now) (vec_items c.push_string.new.text) (string_bytes c.in_ok-header_text-in-Header.field-0) (text_of (item_of c.args.record))
    (c.in_ok-header_text-in-Header.ensures ∙ ap (λ (r : Record). text_of (item_of r)) (sym c.in-Header.is)) c.push_string.ensures

pub returns-in_ok-unit_text-in-Unit : goal.returns-in_ok-unit_text-in-Unit
returns-in_ok-unit_text-in-Unit c = made_same c.push_string-in-Unit.result (vec_items c.args.text.now) (vec_items c.push_string-in-Unit.new.text) (string_bytes c.in_ok-unit_text-in-Unit.field-0) (text_of (item_of c.args.record))
    (c.in_ok-unit_text-in-Unit.ensures ∙ ap (λ (r : Record). text_of (item_of r)) (sym c.in-Unit.is)) c.push_string-in-Unit.ensures
