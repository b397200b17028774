use Rattle.std.proofs.Common.{◌≡◌, ℕ, ◌+◌, get_or, set, ap, ◌∙◌, arith}
use Rattle.std.proofs.lemmas.List.Edits.{fill_by_more}
use Rattle.std.proofs.lemmas.List.{get_or-set_other}
use Rattle.billing.proofs.columns.add_column.Goals as goal

pub overflow_add-onto : goal.overflow_add-onto
overflow_add-onto c = omega (arith, c.requires.room c.loop-i.i (omega arith), c.loop-i.invariant.1 c.loop-i.i (omega arith))

pub loop-i-preserved : goal.loop-i-preserved
loop-i-preserved c =
    let before = c.args.onto.now in
    let f : ℕ → ℕ = λ k. get_or before k 0 + get_or c.args.column.now k 0 in
    let e : get_or c.loop-i.onto c.loop-i.i 0 + c.from.result ≡ get_or before c.loop-i.i 0 + get_or c.args.column.now c.loop-i.i 0 =
    omega (arith, c.loop-i.invariant.1 c.loop-i.i (omega arith)) in (
      λ k h.
          ap (λ v. get_or (set c.loop-i.onto c.loop-i.i v) k 0) e
          ∙ fill_by_more f c.loop-i.onto c.loop-i.i 0 (omega arith) c.loop-i.invariant.0 k h,
      λ k h. get_or-set_other c.loop-i.onto c.loop-i.i k _ 0 (omega arith) ∙ c.loop-i.invariant.1 k (omega arith),
    )

pub returns : goal.returns
returns c k h = c.loop-i.invariant.0 k (omega (arith, c.requires.places))
