use Rattle.std.proofs.Common.{◌≡◌, ℕ, ◌<◌, false, eqb, List, length, arith}
use Rattle.std.proofs.lemmas.Bool.Decides.{nat_tests}
use Rattle.unit_text.proofs.Assembling.{assembled_more, assembled_fault}
use Rattle.unit_text.proofs.composing.compose_into.Goals as goal

some : (rest : List ℕ) → false ≡ eqb (length rest) 0 → 0 < length rest
some rest e = grind (arith, nat_tests)

pub returns-in-Err : goal.returns-in-Err
returns-in-Err c = assembled_fault c.args.text.now c.loop-rest.out c.loop-rest.rest.now c.cut_line.result.0.now c.cut_line.result.1.now c.loop-rest.writer.place c.loop-rest.line c.in-Err.reason c.loop-rest.invariant
    (c.cut_line.ensures.lines (some c.loop-rest.rest.now c.loop-rest-test.ensures)) c.in-Err.ensures.file

pub loop-rest-preserved : goal.loop-rest-preserved
loop-rest-preserved c = assembled_more c.args.text.now c.loop-rest.out c.put_line.new.out c.loop-rest.rest.now c.cut_line.result.0.now c.cut_line.result.1.now c.loop-rest.writer.place c.put_line.new.writer.place c.loop-rest.line c.loop-rest.invariant
    (c.cut_line.ensures.lines (some c.loop-rest.rest.now c.loop-rest-test.ensures)) (c.cut_line.ensures.shorter (some c.loop-rest.rest.now c.loop-rest-test.ensures)) (omega arith) c.in_default.ensures.inside c.in_default.ensures.file
