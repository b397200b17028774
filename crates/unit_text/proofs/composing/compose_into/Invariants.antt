use Rattle.std.proofs.Common.{length}
use Rattle.unit_text.proofs.Assembling.{Assembled}
use Rattle.unit_text.proofs.composing.compose_into.Given as goal

abbrev pub invariant-loop-rest : goal.invariant-loop-rest
invariant-loop-rest l = Assembled l.text l.out l.rest l.writer.place l.line

abbrev pub decreases-loop-rest : goal.decreases-loop-rest
decreases-loop-rest l = length l.rest
