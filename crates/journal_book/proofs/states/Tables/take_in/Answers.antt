use Rattle.std.proofs.Common.{◌≡◌, rules, MatchResult, List, vec_items, Option, sym, refl, ap}
use Rattle.std.specs.Option.{option_map}
use Rattle.book_rules.specs.Machine.{Pass}
use Rattle.book_rules.specs.Run.{take_in, closed}
use Rattle.book.specs.Shown.{frozen_book, pass_of}
use Rattle.journal_line.specs.declared.calls.Command.TheVariants.{TakeIn}
use Rattle.journal_rules.specs.Journal.{Journal}
use Rattle.journal_book.specs.declared.replies.Reply.TheVariants.{HandedIn, Refused}
use Rattle.journal_book.specs.Stages.{frozen_journal}
use Rattle.journal_book.proofs.Commands.{called_for, done_reply}
use Rattle.journal_book.proofs.states.Tables.take_in.Goals as goal

pub returns : goal.returns
returns c by room =
    let kept = c.args.self.now in
    let got = c.in-Some.ensures in
    let state = closed (frozen_book c.args.book.now) (vec_items kept.units) (vec_items kept.costs) (vec_items kept.marks) in
    let told : MatchResult c.take_in.result (λ _. c.map_or_else.result ≡ HandedIn) (λ e. c.map_or_else.result ≡ Refused e) = search rules in
    called_for by room (TakeIn c.args.number) (frozen_journal c.args.book.now kept) (take_in (pass_of c.in-Some.pass)) _ _ _ refl (sym (ap (option_map take_in) got.value))
    (rw c.deref.ensures.value at (c.take_in.ensures (vec_items kept.units) (vec_items kept.costs)))
    (ap (λ (l : List (Option Pass)). let j : Journal = record { state = state; held = l } in j) got.after)
    (done_reply room (TakeIn c.args.number) c.take_in.result c.map_or_else.result told)
