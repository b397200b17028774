use Rattle.std.proofs.Common.{arith}
use Rattle.std.proofs.lemmas.Grind.{common_steps}
use Rattle.journal_line.proofs.parsing.first_word.Goals as goal

pub returns-clause-word : goal.returns-clause-word
returns-clause-word c = λ k d inside space. grind (arith, common_steps, c.split_at.ensures.by_index, c.position.ensures)
