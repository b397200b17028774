use Rattle.std.proofs.Common.{length, ◌∙◌, arith}
use Rattle.unit_file.specs.Records.{item_of}
use Rattle.unit_file.specs.Writing.{put_refusal}
use Rattle.unit_text.proofs.Assembling.{parsed, not_refused, was_put}
use Rattle.unit_text.proofs.composing.put_line.Goals as goal

pub returns-clause-file : goal.returns-clause-file
returns-clause-file c =
    let none = not_refused (put_refusal c.args.writer.now.place (length c.args.out.now) (item_of c.in_ok-record.record)) tt tt c.in_ok-put.ensures.answers in
    let says = parsed c.parse_line.result c.in_ok-record.record _ c.in_ok-record.ensures.value ∙ c.parse_line.ensures in
    (was_put c.args.writer.now.place c.put.new.self.place c.args.out.now c.put.new.out c.args.text.now (item_of c.in_ok-record.record)
    c.requires.1 c.requires.0 (omega arith) says none c.in_ok-put.ensures.out c.in_ok-put.ensures.place).file
