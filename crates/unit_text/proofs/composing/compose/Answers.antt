use Rattle.std.proofs.Common.{Ok, sym, ap, ◌∙◌, rules}
use Rattle.unit_file.proofs.RoundTrip.{read_back}
use Rattle.unit_text.proofs.Returning.{restores}
use Rattle.unit_text.proofs.composing.compose.Goals as goal

pub returns-in_err-size-clause-restored : goal.returns-in_err-size-clause-restored
returns-in_err-size-clause-restored c = restores c.args.text.now c.from_residual.result (search rules)

pub returns-in_err-size-clause-read_back : goal.returns-in_err-size-clause-read_back
returns-in_err-size-clause-read_back c = read_back

pub returns-in_err-from_slice-clause-read_back : goal.returns-in_err-from_slice-clause-read_back
returns-in_err-from_slice-clause-read_back c = read_back

pub returns-clause-restored : goal.returns-clause-restored
returns-clause-restored c = restores c.args.text.now (Ok c.in_ok-from_slice.field-0) (ap Ok c.in_ok-from_slice.ensures.items ∙ sym c.in_ok-size.ensures.1)

pub returns-clause-read_back : goal.returns-clause-read_back
returns-clause-read_back c = read_back
