use Rattle.std.proofs.Common.{◌≡◌, ◌+◌, List, [], ◌∷◌, ◌++◌, length, get_or, take, vec_items, ◌∙◌, subst}
use Rattle.std.proofs.lemmas.List.{take_more, take_all}
use Rattle.journal_line.specs.declared.calls.Command.{Command}
use Rattle.journal_line.specs.declared.calls.Command.TheVariants.{Admit}
use Rattle.journal_rules.proofs.Lives.{journal_lives}
use Rattle.journal_book.specs.Replay.{Replayed}
use Rattle.journal_book.specs.Shown.{shown_journal, rules_for}
use Rattle.journal_book.proofs.Replaying.{turn, goes_on, stops}
use Rattle.journal_book.proofs.states.Journal.replay.Goals as goal

pub returns-then-is_err : goal.returns-then-is_err
returns-then-is_err g c =
    let self = shown_journal c.args.self in
    let j = shown_journal c.loop-command.journal in
    let next = shown_journal c.tell-next.result.0 in
    let t = vec_items c.loop-command.text in
    let t' = vec_items c.tell-next.new.text in
    let i = c.loop-command.command-index in
    let commands = c.args.commands.now in
    let command = get_or commands i (Admit 0) in
    let inv = c.loop-command.invariant in
    let told = c.tell-next.ensures in
    let more : take (i + 1) commands ≡ take i commands ++ command ∷ [] = take_more commands i (Admit 0) c.loop-command-test.true in
    let step = turn inv.1 inv.2 (length c.loop-command.out) inv.0 command j next t t' c.tell-next.result.1 told.answers in
    let d = g.D.SharingRule.meaning c.args.down.now in
    let r = g.R.SharingRule.meaning c.args.running.now in
    record {
      answers = λ ld lr. stops (rules_for d r ld lr) self commands i command more j next (vec_items c.args.text.now) t t' (inv.3 ld lr) c.tell-next.result.1 c.if-is_err.ensures.value (step ld lr);
      life = λ ld lr s before life offered leads. journal_lives s before (rules_for d r ld lr) self commands life offered leads;
      lawful = (g.met.D.SharingRule.lawful c.args.down.now, g.met.R.SharingRule.lawful c.args.running.now);
      means = (told.means.0 ∙ inv.1, told.means.1 ∙ inv.2);
    }

pub loop-command-preserved : goal.loop-command-preserved
loop-command-preserved g c =
    let j = shown_journal c.loop-command.journal in
    let next = shown_journal c.tell-next.result.0 in
    let t = vec_items c.loop-command.text in
    let t' = vec_items c.tell-next.new.text in
    let i = c.loop-command.command-index in
    let commands = c.args.commands.now in
    let command = get_or commands i (Admit 0) in
    let inv = c.loop-command.invariant in
    let told = c.tell-next.ensures in
    let more : take (i + 1) commands ≡ take i commands ++ command ∷ [] = take_more commands i (Admit 0) c.loop-command-test.true in
    let step = turn inv.1 inv.2 (length c.loop-command.out) inv.0 command j next t t' c.tell-next.result.1 told.answers in
    let d = g.D.SharingRule.meaning c.args.down.now in
    let r = g.R.SharingRule.meaning c.args.running.now in (
      c.tell-next.auto.out ∙ inv.0,
      told.means.0 ∙ inv.1,
      told.means.1 ∙ inv.2,
      λ ld lr. goes_on (rules_for d r ld lr) (shown_journal c.args.self) commands i command more j next (vec_items c.args.text.now) t t' (inv.3 ld lr) c.tell-next.result.1 c.if-is_err.ensures.value (step ld lr),
    )

pub returns : goal.returns
returns g c =
    let self = shown_journal c.args.self in
    let commands = c.args.commands.now in
    let inv = c.loop-command.invariant in
    let d = g.D.SharingRule.meaning c.args.down.now in
    let r = g.R.SharingRule.meaning c.args.running.now in
    record {
      answers = λ ld lr.
          subst (λ (l : List Command). Replayed (rules_for d r ld lr) self l (shown_journal c.loop-command.journal) (vec_items c.args.text.now) (vec_items c.loop-command.text))
          (take_all c.loop-command.command-index commands c.loop-command-test.false) (inv.3 ld lr);
      life = λ ld lr s before life offered leads. journal_lives s before (rules_for d r ld lr) self commands life offered leads;
      lawful = (g.met.D.SharingRule.lawful c.args.down.now, g.met.R.SharingRule.lawful c.args.running.now);
      means = (inv.1, inv.2);
    }
