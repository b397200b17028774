use Rattle.std.proofs.Common.{length, refl}
use Rattle.journal_rules.specs.Journal.{step_journal}
use Rattle.journal_book.specs.Stages.{frozen_journal}
use Rattle.journal_book.specs.Shown.{rules_for}
use Rattle.journal_book.proofs.Commands.{answers_as, not_offered_is, only_open, no_rows_out}
use Rattle.journal_book.proofs.states.Tables.call_frozen.Goals as goal

pub returns-in-Reopen-clause-answers : goal.returns-in-Reopen-clause-answers
returns-in-Reopen-clause-answers g c ld lr = answers_as c.in-Reopen.is (c.reopen.ensures _ _)

pub returns-in-TakeIn-clause-answers : goal.returns-in-TakeIn-clause-answers
returns-in-TakeIn-clause-answers g c ld lr = answers_as c.in-TakeIn.is (c.take_in-reply.ensures _ _)

pub returns-in_default : goal.returns-in_default
returns-in_default g c =
    let old = frozen_journal c.args.book c.args.self.now in
    let other = only_open c.args.command c.in_default.not-Reopen c.in_default.not-TakeIn c.in_default.not-Bill in
    record {
      answers = λ ld lr.
          let rules = rules_for (g.D.SharingRule.meaning c.args.down.now) (g.R.SharingRule.meaning c.args.running.now) ld lr in
          not_offered_is rules (length c.args.out.now) c.args.command old other.0;
      out = λ ld lr.
          let rules = rules_for (g.D.SharingRule.meaning c.args.down.now) (g.R.SharingRule.meaning c.args.running.now) ld lr in
          no_rows_out c.args.out.now c.args.command c.args.command (step_journal rules old c.args.command).reply other.1 refl;
      lawful = (g.met.D.SharingRule.lawful c.args.down.now, g.met.R.SharingRule.lawful c.args.running.now);
      means = (refl, refl);
    }
