use Rattle.std.proofs.Common.{vec_items, refl}
use Rattle.std.proofs.lemmas.Slice.{pushed}
use Rattle.unit_text.proofs.Growing.{made_both}
use Rattle.unit_text.proofs.listing.push_both.Goals as goal

pub returns : goal.returns
returns c = made_both c.extend_from_slice-2.result (vec_items c.args.text.now) (vec_items c.extend_from_slice.new.self) (vec_items c.extend_from_slice-2.new.self) c.args.first.now c.args.second.now
    (pushed c.args.first.now refl c.in_ok-extend_from_slice.was c.extend_from_slice.ensures.items) c.extend_from_slice-2.ensures.items
