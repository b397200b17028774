use Rattle.std.proofs.Common.{refl, rules}
use Rattle.figures.proofs.Billed.{worked_bills}
use Rattle.figures.proofs.worked_shares.Goals as goal

pub returns : goal.returns
returns c = record {
  figures = record { shares = record { thirds_by_down = refl; left_by_down = refl; thirds_by_running = refl; left_by_running = refl; gaps_by_running = refl }; bills = worked_bills; passes = record { first_pass_is_void = refl; at_the_last_pass_number = refl } };
  shares = search rules;
}
