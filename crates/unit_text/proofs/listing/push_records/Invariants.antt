use Rattle.std.proofs.Common.{◌≡◌, ◌-◌, length, vec_items}
use Rattle.unit_text.proofs.Growing.{Growing}
use Rattle.unit_text.proofs.listing.push_records.Given as goal

abbrev pub invariant-loop-record : goal.invariant-loop-record
invariant-loop-record l = (l.reader.bytes.now ≡ l.bytes) × Growing l.bytes l.reader.place (vec_items l.initial.text) (vec_items l.text)

abbrev pub decreases-loop-record : goal.decreases-loop-record
decreases-loop-record l = length l.bytes - l.reader.place
