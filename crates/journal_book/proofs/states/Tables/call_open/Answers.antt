use Rattle.journal_book.specs.Stages.{open_journal}
use Rattle.journal_book.proofs.Commands.{answers_as, leaves_as}
use Rattle.journal_book.proofs.states.Tables.call_open.Goals as goal

pub returns-in-Admit : goal.returns-in-Admit
returns-in-Admit c rules room =
    let last = c.admit-reply.new in
    leaves_as rules room (open_journal c.args.book c.args.self.now) (open_journal last.book last.self) c.admit-reply.result c.in-Admit.is (c.admit-reply.ensures rules room)

pub returns-in-Freeze : goal.returns-in-Freeze
returns-in-Freeze c rules room = answers_as c.in-Freeze.is (c.freeze-stage.ensures rules room)

pub returns-in-Remove : goal.returns-in-Remove
returns-in-Remove c rules room = answers_as c.in-Remove.is (c.remove-reply.ensures rules room)

pub returns-in-HandIn : goal.returns-in-HandIn
returns-in-HandIn c rules room = answers_as c.in-HandIn.is (c.hand_in-reply.ensures rules room)

pub returns-in-Post : goal.returns-in-Post
returns-in-Post c rules room = answers_as c.in-Post.is (c.post-reply.ensures rules room)

pub returns-in-Cost : goal.returns-in-Cost
returns-in-Cost c rules room = answers_as c.in-Cost.is (c.add_cost-reply.ensures rules room)

pub returns-in-Correct : goal.returns-in-Correct
returns-in-Correct c rules room = answers_as c.in-Correct.is (c.correct-reply.ensures rules room)
