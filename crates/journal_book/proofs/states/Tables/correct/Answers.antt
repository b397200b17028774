use Rattle.std.proofs.Common.{◌≡◌, rules, MatchResult, vec_items, sym, refl, ap, ◌∙◌}
use Rattle.std.specs.Option.{option_map}
use Rattle.std.proofs.lemmas.List.{with_items_is}
use Rattle.book_rules.specs.Machine.{Pass}
use Rattle.book_rules.specs.Run.{correct}
use Rattle.book.specs.Shown.{pass_of}
use Rattle.journal_line.specs.declared.calls.Command.TheVariants.{Correct}
use Rattle.journal_book.specs.declared.replies.Reply.TheVariants.{Corrected, Refused}
use Rattle.journal_book.specs.Stages.{open_journal}
use Rattle.journal_book.proofs.Commands.{called_for, done_reply}
use Rattle.journal_book.proofs.states.Tables.correct.Goals as goal

pub returns : goal.returns
returns c by room =
    let kept = c.args.self.now in
    let asked = Correct c.args.number c.args.row c.args.quantity in
    let told : MatchResult c.correct.result (λ _. c.map_or_else.result ≡ Corrected) (λ e. c.map_or_else.result ≡ Refused e) = search rules in
    called_for by room asked (open_journal c.args.book.now kept) (correct (pass_of c.in-Some.pass.now) c.args.row c.args.quantity) _ _ _ refl
    (sym (ap (option_map (λ (p : Pass). correct p c.args.row c.args.quantity)) (rw c.deref.ensures.value at c.in-Some.ensures)))
    (rw (c.deref_mut.ensures.value, c.deref-2.ensures.value) at (c.correct.ensures (vec_items kept.costs)))
    (rw (with_items_is kept.units c.correct.new.units (c.correct.auto.units ∙ c.deref_mut.ensures.len)))
    (done_reply room asked c.correct.result c.map_or_else.result told)
