use Rattle.std.proofs.Common.{◌≡◌, length, take, vec_items}
use Rattle.sharing.specs.Rule.{Lawful}
use Rattle.line_rows.specs.Writing.{most_line}
use Rattle.journal_book.specs.Replay.{Replayed}
use Rattle.journal_book.specs.Shown.{shown_journal, rules_for}
use Rattle.journal_book.proofs.states.Journal.replay.Given as goal

abbrev pub invariant-loop-command : goal.invariant-loop-command
invariant-loop-command g l =
    (length l.out ≡ most_line)
    × (g.D.SharingRule.meaning l.down ≡ g.D.SharingRule.meaning l.initial.down)
    × (g.R.SharingRule.meaning l.running ≡ g.R.SharingRule.meaning l.initial.running)
    × ((ld : Lawful (g.D.SharingRule.meaning l.initial.down)) (lr : Lawful (g.R.SharingRule.meaning l.initial.running)) →
    Replayed (rules_for (g.D.SharingRule.meaning l.initial.down) (g.R.SharingRule.meaning l.initial.running) ld lr) (shown_journal l.initial.journal) (take l.command-index l.commands) (shown_journal l.journal) (vec_items l.initial.text) (vec_items l.text))
