use Rattle.std.proofs.Common.{vec_items, subst}
use Rattle.sharing.specs.Rules.{down, running}
use Rattle.journal_book.specs.Shown.{rules_for}
use Rattle.journal_session.specs.Session.{shown_session, line_step, Answers}
use Rattle.journal.proofs.answer_to.Goals as goal

pub returns : goal.returns
returns c ld lr =
    let old = shown_session c.args.session in
    subst (λ line. Answers (line_step (rules_for down running ld lr) old line) old (shown_session c.answer.result.0) (vec_items c.args.text.now) (vec_items c.answer.new.text) c.answer.result.1)
    c.without_end.ensures (c.answer.ensures.answers ld lr)
