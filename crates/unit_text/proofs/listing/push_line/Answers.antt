use Rattle.std.proofs.Common.{[], ◌∷◌, vec_items}
use Rattle.unit_file.specs.Records.{item_of}
use Rattle.unit_text.specs.Lines.{text_of}
use Rattle.unit_text.proofs.Growing.{made_both}
use Rattle.unit_text.proofs.listing.push_line.Goals as goal

pub returns : goal.returns
returns c = made_both c.extend_from_slice.result (vec_items c.args.text.now) (vec_items c.push_text.new.text) (vec_items c.extend_from_slice.new.self) (text_of (item_of c.args.record)) (10 ∷ [])
    c.in_ok-push_text.ensures c.extend_from_slice.ensures.items
