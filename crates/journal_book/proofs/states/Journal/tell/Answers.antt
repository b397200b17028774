use Rattle.std.proofs.Common.{vec_items}
use Rattle.journal_book.specs.Shown.{shown_journal, rules_for}
use Rattle.journal_book.proofs.Telling.{tells}
use Rattle.journal_book.proofs.states.Journal.tell.Goals as goal

pub returns-clause-answers : goal.returns-clause-answers
returns-clause-answers g c ld lr =
    let rules = rules_for (g.D.SharingRule.meaning c.args.down.now) (g.R.SharingRule.meaning c.args.running.now) ld lr in
    let made = c.make-next.ensures in
    tells rules c.args.command (shown_journal c.args.self) (shown_journal c.make-next.result.0) c.args.out.now c.make-next.new.out c.make-next.result.1 (made.answers ld lr) (made.out ld lr)
    (vec_items c.args.text.now) (vec_items c.push_reply-told.new.text) c.push_reply-told.result c.push_reply-told.ensures
