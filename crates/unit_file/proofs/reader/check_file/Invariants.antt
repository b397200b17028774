use Rattle.std.proofs.Common.{◌≡◌, ◌-◌, length}
use Rattle.unit_file.proofs.Walk.{Counting}
use Rattle.unit_file.proofs.reader.check_file.Given as goal

abbrev pub invariant-loop-count : goal.invariant-loop-count
invariant-loop-count l = (l.reader.bytes.now ≡ l.bytes) × Counting l.bytes l.reader.place l.count

abbrev pub decreases-loop-count : goal.decreases-loop-count
decreases-loop-count l = length l.bytes - l.reader.place
