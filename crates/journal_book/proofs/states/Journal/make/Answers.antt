use Rattle.std.proofs.Common.{◌≡◌, length, vec_items, Ok, sym, ap, subst}
use Rattle.book.specs.Shown.{open_book}
use Rattle.journal_rules.specs.Numbered.{Numbered}
use Rattle.journal_book.specs.declared.states.Stage.{Stage}
use Rattle.journal_book.specs.declared.states.Stage.TheVariants.{Open, Frozen}
use Rattle.journal_book.specs.Stages.{shown_passes, shown_as}
use Rattle.journal_book.specs.Shown.{shown_journal, rules_for}
use Rattle.journal_book.proofs.Journals.{leaves_from, leaves_numbered, written_from, open_written}
use Rattle.journal_book.proofs.states.Journal.make.Goals as goal

pub invariant_of-result : goal.invariant_of-result
invariant_of-result g c =
    let self = c.args.self in
    let start : shown_journal self ≡ shown_as (Open c.in-Open.book) self.tables = ap (λ (s : Stage). shown_as s self.tables) c.in-Open.is in
    let rules = rules_for (g.D.SharingRule.meaning c.args.down.now) (g.R.SharingRule.meaning c.args.running.now) (g.met.D.SharingRule.lawful c.args.down.now) (g.met.R.SharingRule.lawful c.args.running.now) in
    record { numbered = leaves_numbered rules (length c.args.out.now) c.args.command _ _ c.call_open-stage.result.1 (c.call_open-stage.ensures rules (length c.args.out.now)) (subst Numbered start self.numbered) }

pub invariant_of-result-in-Frozen : goal.invariant_of-result-in-Frozen
invariant_of-result-in-Frozen g c =
    let self = c.args.self in
    let start : shown_journal self ≡ shown_as (Frozen c.in-Frozen.book) self.tables = ap (λ (s : Stage). shown_as s self.tables) c.in-Frozen.is in
    let told = c.call_frozen-stage.ensures in
    let rules = rules_for (g.D.SharingRule.meaning c.args.down.now) (g.R.SharingRule.meaning c.args.running.now) told.lawful.0 told.lawful.1 in
    record { numbered = leaves_numbered rules (length c.args.out.now) c.args.command _ _ (Ok c.call_frozen-stage.result.1) (told.answers told.lawful.0 told.lawful.1) (subst Numbered start self.numbered) }

pub returns-in-Open-clause-answers : goal.returns-in-Open-clause-answers
returns-in-Open-clause-answers g c ld lr =
    let self = c.args.self in
    let rules = rules_for (g.D.SharingRule.meaning c.args.down.now) (g.R.SharingRule.meaning c.args.running.now) ld lr in
    leaves_from rules c.args.command _ _ c.call_open-stage.result.1 (ap (λ (s : Stage). shown_as s self.tables) (sym c.in-Open.is)) (length c.args.out.now) (shown_as c.call_open-stage.result.0 c.call_open-stage.new.self) (c.call_open-stage.ensures rules (length c.args.out.now))

pub returns-in-Open-clause-out : goal.returns-in-Open-clause-out
returns-in-Open-clause-out g c ld lr =
    let self = c.args.self in
    let kept = self.tables in
    let rules = rules_for (g.D.SharingRule.meaning c.args.down.now) (g.R.SharingRule.meaning c.args.running.now) ld lr in
    written_from rules c.args.command _ _ c.call_open-stage.result.1 (ap (λ (s : Stage). shown_as s kept) (sym c.in-Open.is)) c.args.out.now c.args.out.now
    (open_written rules (open_book c.in-Open.book) (vec_items kept.units) (vec_items kept.costs) (vec_items kept.marks) (shown_passes (vec_items kept.passes)) c.args.command c.args.out.now c.call_open-stage.result.1)

pub returns-in-Frozen-clause-answers : goal.returns-in-Frozen-clause-answers
returns-in-Frozen-clause-answers g c ld lr =
    let self = c.args.self in
    let rules = rules_for (g.D.SharingRule.meaning c.args.down.now) (g.R.SharingRule.meaning c.args.running.now) ld lr in
    leaves_from rules c.args.command _ _ (Ok c.call_frozen-stage.result.1) (ap (λ (s : Stage). shown_as s self.tables) (sym c.in-Frozen.is)) (length c.args.out.now) (shown_as c.call_frozen-stage.result.0 c.call_frozen-stage.new.self) (c.call_frozen-stage.ensures.answers ld lr)

pub returns-in-Frozen-clause-out : goal.returns-in-Frozen-clause-out
returns-in-Frozen-clause-out g c ld lr =
    let self = c.args.self in
    let rules = rules_for (g.D.SharingRule.meaning c.args.down.now) (g.R.SharingRule.meaning c.args.running.now) ld lr in
    written_from rules c.args.command _ _ (Ok c.call_frozen-stage.result.1) (ap (λ (s : Stage). shown_as s self.tables) (sym c.in-Frozen.is)) c.args.out.now c.call_frozen-stage.new.out (c.call_frozen-stage.ensures.out ld lr)
