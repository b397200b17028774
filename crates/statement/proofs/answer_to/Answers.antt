use Rattle.std.proofs.Common.{ℕ, List, take, sym, ap, ◌∙◌, arith}
use Rattle.std.proofs.lemmas.List.{with_items_is}
use Rattle.statement_report.specs.Statement.{Told}
use Rattle.statement_report.proofs.Printing.{always_made, whole_text}
use Rattle.statement.proofs.answer_to.Goals as goal

pub unwrap-statement-requires : goal.unwrap-statement-requires
unwrap-statement-requires c =
    let size = c.in_ok-text.ensures.len in
    always_made c.args.file.now c.as_mut_slice.result.now (omega (arith, c.as_mut_slice.ensures.len)) c.make_statement.ensures.short c.make_statement.result c.make_statement.ensures.answers

pub returns : goal.returns
returns c =
    let size = c.in_ok-text.ensures.len in
    let after = c.make_statement.new.out in
    let s = c.unwrap-statement.result in
    let tell : List ℕ → Told = λ x. (s.refusal, x) in
    ap tell (c.truncate.ensures.items ∙ ap (take s.length) (with_items_is c.in_ok-text.text after (c.make_statement.auto.out ∙ c.as_mut_slice.ensures.len)))
    ∙ whole_text c.args.file.now c.as_mut_slice.result.now (omega (arith, c.as_mut_slice.ensures.len)) c.make_statement.ensures.short after s (sym c.unwrap-statement.ensures ∙ c.make_statement.ensures.answers) c.make_statement.ensures.out
