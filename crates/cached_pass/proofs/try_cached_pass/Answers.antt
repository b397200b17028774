use Rattle.std.proofs.Common.{◌≡◌, false, ap, ◌∙◌}
use Rattle.book_rules.specs.Machine.{valid}
use Rattle.book_rules.specs.Run.{State}
use Rattle.book.specs.Shown.{open_book, pass_of}
use Rattle.cached_pass.proofs.Void.{correct_idle, post_idle, cost_idle}
use Rattle.cached_pass.proofs.try_cached_pass.Goals as goal

pub returns : goal.returns
returns c = λ void.
    let b = open_book c.args.book.now in
    let cs = c.args.costs.now in
    let ms = c.args.marks.now in
    let p = pass_of c.args.contractor.now in
    let one = correct_idle b c.args.units.now cs ms p void 0 1 _ (c.correct-first.ensures cs) in
    let two = correct_idle b c.correct-first.new.units cs ms p void 1 1 _ (c.correct-second.ensures cs) in
    let three = post_idle b c.correct-second.new.units cs ms p void c.load_row.result _ (c.post-third.ensures cs) in
    let still : valid (open_book c.post-third.new.self) ms p ≡ false = ap (λ (s : State). valid s.book ms p) three ∙ void in
    let four = cost_idle (open_book c.post-third.new.self) c.post-third.new.units cs ms p still _ _ (c.add_cost-fourth.ensures c.post-third.new.units) in
    four ∙ three ∙ two ∙ one
