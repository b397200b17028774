use Rattle.std.proofs.Common.{vec_items, sym, refl, ap, ◌∙◌}
use Rattle.std.specs.Option.{option_map}
use Rattle.std.proofs.lemmas.List.{with_items_is}
use Rattle.book_rules.specs.Machine.{Pass}
use Rattle.book_rules.specs.Run.{post}
use Rattle.book.specs.Shown.{pass_of}
use Rattle.journal_line.specs.declared.calls.Command.TheVariants.{Post}
use Rattle.journal_book.specs.Stages.{open_journal}
use Rattle.journal_book.proofs.Commands.{called_for, row_reply}
use Rattle.journal_book.proofs.states.Tables.post.Goals as goal

pub returns : goal.returns
returns c rules room =
    let kept = c.args.self.now in
    let asked = Post c.args.number c.args.row in
    called_for rules room asked (open_journal c.args.book.now kept) (post (pass_of c.in-Some.pass.now) c.args.row) _ _ _ refl
    (sym (ap (option_map (λ (p : Pass). post p c.args.row)) (rw c.deref.ensures.value at c.in-Some.ensures)))
    (rw (c.deref_mut.ensures.value, c.deref-2.ensures.value) at (c.post.ensures (vec_items kept.costs)))
    (rw (with_items_is kept.units c.post.new.units (c.post.auto.units ∙ c.deref_mut.ensures.len)))
    (row_reply room asked c.post.result c.map_or_else.result c.map_or_else.ensures)
