use Rattle.std.proofs.Common.{vec_items, sym, subst}
use Rattle.journal_book.specs.Shown.{shown_journal, rules_for}
use Rattle.journal_session.specs.Session.{shown_session, running, by_call, Answers}
use Rattle.journal_session.proofs.Telling.{replayed}
use Rattle.journal_session.proofs.states.Session.call.Goals as goal

pub returns-in-Running-clause-answers : goal.returns-in-Running-clause-answers
returns-in-Running-clause-answers g c ld lr =
    let rules = rules_for (g.D.SharingRule.meaning c.args.down.now) (g.R.SharingRule.meaning c.args.running.now) ld lr in
    let before = vec_items c.args.text.now in
    let behind = vec_items c.replay-next.new.text in
    let new = shown_journal c.replay-next.result.0 in
    subst (λ s. Answers (by_call rules (shown_session s) c.args.command) (shown_session s) (running new) before behind c.map_err.result) (sym c.in-Running.is)
    (replayed rules (shown_journal c.in-Running.journal) c.args.command new before behind c.replay-next.result.1 c.map_err.result (c.replay-next.ensures.answers ld lr) c.map_err.ensures.cases)
