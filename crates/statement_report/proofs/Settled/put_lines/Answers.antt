use Rattle.std.proofs.Common.{◌≡◌, ℕ, ◌+◌, List, Ok, Err, Result, sym, subst, arith, rules}
use Rattle.tariff.specs.declared.refusal.Refusal.{Refusal}
use Rattle.book_rules.specs.Run.{closed}
use Rattle.book.specs.Shown.{frozen_book}
use Rattle.statement_report.specs.Statement.{lines_upto, Makes}
use Rattle.statement_report.proofs.Making.{next_fits, line_next, refused_ends, lines_before}
use Rattle.statement_report.proofs.Settled.put_lines.Goals as goal

pub put_line-requires : goal.put_line-requires
put_line-requires c =
    let fits = next_fits c.loop-line.line (omega (arith, c.loop-line.auto.line)) (omega (arith, c.loop-line-test.true)) in
    omega (arith, fits.0, fits.1, c.loop-line.invariant.1, c.requires, c.loop-line.auto.text)

pub returns-in_err-place-clause-makes : goal.returns-in_err-place-clause-makes
returns-in_err-place-clause-makes c = λ marks.
    let k = c.loop-line.line in
    let e = c.in_err-place.field-0.0 in
    let after = c.put_line.new.text in
    let s = closed (frozen_book c.args.self.now.book.now) c.args.self.now.units.now c.args.self.now.costs.now marks in
    let given : c.from_residual.result ≡ Err e = search rules in
    subst (λ (r : Result ℕ Refusal). Makes (lines_upto s 7) c.args.text.now 0 r after) (sym given)
    (refused_ends s (k + 1) c.args.text.now after after e (omega (arith, c.loop-line-test.true))
    (line_next s k c.args.text.now c.loop-line.text after c.loop-line.place (Err e) (omega (arith, c.loop-line.auto.line)) (c.loop-line.invariant.0 marks) (c.in_err-place.ensures.makes marks)))

pub loop-line-preserved : goal.loop-line-preserved
loop-line-preserved c =
    let k = c.loop-line.line in
    let s = λ (marks : List ℕ). closed (frozen_book c.args.self.now.book.now) c.args.self.now.units.now c.args.self.now.costs.now marks in
    let fits = next_fits k (omega (arith, c.loop-line.auto.line)) (omega (arith, c.loop-line-test.true)) in (
      λ marks. line_next (s marks) k c.args.text.now c.loop-line.text c.put_line.new.text c.loop-line.place (Ok c.in_ok-place.place) (omega (arith, c.loop-line.auto.line)) (c.loop-line.invariant.0 marks) (c.in_ok-place.ensures.makes marks),
      omega (arith, fits.0, c.loop-line.invariant.1, c.in_ok-place.ensures.near),
    )

pub returns-clause-makes : goal.returns-clause-makes
returns-clause-makes c = λ marks.
    let s = closed (frozen_book c.args.self.now.book.now) c.args.self.now.units.now c.args.self.now.costs.now marks in
    let end : c.loop-line.line ≡ 8 = omega (arith, c.loop-line-test.false, c.loop-line.auto.line-end) in
    subst (λ (n : ℕ). Makes (lines_before s n) c.args.text.now 0 (Ok c.loop-line.place) c.loop-line.text) end (c.loop-line.invariant.0 marks)
