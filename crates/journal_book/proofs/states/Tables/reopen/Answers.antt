use Rattle.std.proofs.Common.{vec_items, refl}
use Rattle.book_rules.specs.Run.{reopen}
use Rattle.journal_line.specs.declared.calls.Command.TheVariants.{Reopen}
use Rattle.journal_book.specs.Stages.{frozen_journal}
use Rattle.journal_book.proofs.Commands.{called_for}
use Rattle.journal_book.proofs.states.Tables.reopen.Goals as goal

pub returns : goal.returns
returns c rules room =
    let kept = c.args.self.now in
    called_for rules room Reopen (frozen_journal c.args.book kept) reopen _ _ _ refl refl (c.reopen.ensures (vec_items kept.units) (vec_items kept.costs) (vec_items kept.marks)) refl refl
