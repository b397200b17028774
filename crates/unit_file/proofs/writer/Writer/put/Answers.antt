use Rattle.std.proofs.Common.{length}
use Rattle.unit_file.specs.Records.{item_of}
use Rattle.unit_file.proofs.Writes.{refused_by_file, put_done}
use Rattle.unit_file.proofs.writer.Writer.put.Goals as goal

pub returns-in_err-check_record-clause-out : goal.returns-in_err-check_record-clause-out
returns-in_err-check_record-clause-out c = rw (refused_by_file c.args.self.now.place (length c.args.out.now) (item_of c.args.record) c.in_err-check_record.field-0.0 c.in_err-check_record.ensures)

pub returns-in_err-check_record-clause-place : goal.returns-in_err-check_record-clause-place
returns-in_err-check_record-clause-place c = rw (refused_by_file c.args.self.now.place (length c.args.out.now) (item_of c.args.record) c.in_err-check_record.field-0.0 c.in_err-check_record.ensures)

pub returns-clause-written : goal.returns-clause-written
returns-clause-written c = put_done c.args.self.now.place c.in_ok-self.field-0 c.args.out.now c.put_record.new.out (item_of c.args.record) c.in_ok-check_record.ensures c.in_ok-self.ensures.answers c.in_ok-self.ensures.out
