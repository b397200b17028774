use Rattle.std.proofs.Common.{◌≡◌, Ok, vec_items, subst}
use Rattle.journal_book.specs.Shown.{rules_for}
use Rattle.journal_line.specs.declared.calls.Line.TheVariants.{Call}
use Rattle.journal_line.specs.Lines.{line_in}
use Rattle.journal_session.specs.Session.{shown_session, by_line, Answers}
use Rattle.journal_session.proofs.states.Session.answer.Goals as goal

pub returns-in-Ok-Call-clause-answers : goal.returns-in-Ok-Call-clause-answers
returns-in-Ok-Call-clause-answers g c ld lr =
    let rules = rules_for (g.D.SharingRule.meaning c.args.down.now) (g.R.SharingRule.meaning c.args.running.now) ld lr in
    let old = shown_session c.args.self in
    let said : Ok (Call c.in-Ok-Call.command) ≡ line_in c.args.line.now = cc in
    subst (λ said. Answers (by_line rules old said) old (shown_session c.call.result.0) (vec_items c.args.text.now) (vec_items c.call.new.text) c.call.result.1) said (c.call.ensures.answers ld lr)
