use Rattle.std.proofs.Common.{arith}
use Rattle.std.proofs.lemmas.Bool.{le-leb, lt-leb}
use Rattle.unit_file.proofs.RoundTrip.{read_back}
use Rattle.unit_file.proofs.Writes.{written_read}
use Rattle.unit_file.proofs.writer.Writer.finish.Goals as goal

pub returns-then-self-le1 : goal.returns-then-self-le1
returns-then-self-le1 c = record { answers = rw (le-leb c.args.self.place 1 (omega arith)); written = tt; read_back = read_back }

pub returns : goal.returns
returns c = record {
  answers = rw (lt-leb c.args.self.place 1 (omega arith));
  written = λ items so. written_read items c.args.self.place c.args.out.now so (omega arith);
  read_back = read_back;
}
