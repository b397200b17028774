use Rattle.std.proofs.Common.{List, ℕ, Some, None, take, sym, ap, ◌∙◌, arith, length-take}
use Rattle.statement_report.specs.Statement.{text_of, Told}
use Rattle.statement_report.proofs.Making.{made_text, refused_text_is, told_so}
use Rattle.statement_report.proofs.make_statement.Goals as goal

pub returns-in-Ok : goal.returns-in-Ok
returns-in-Ok c =
    let file = c.args.file.now in
    let work = c.put_statement.new.text in
    let end = c.in-Ok.end in
    let is = made_text (text_of file) _ work end c.in-Ok.ensures.makes in
    let done = told_so file c.args.out.now c.put_told.new.out (take end work) None c.put_told.result is (omega (arith, length-take end work, c.in-Ok.ensures.near)) c.put_told.ensures.answers c.put_told.ensures.out in
    record { answers = done.0; out = done.1; short = done.2 }

pub returns-in-Err : goal.returns-in-Err
returns-in-Err c =
    let file = c.args.file.now in
    let e = c.in-Err.refusal in
    let row = c.write_refused-end.new.row in
    let end = c.write_refused-end.result in
    let is = refused_text_is (text_of file) _ c.put_statement.new.text e c.in-Err.ensures.makes in
    let tell : List ℕ → Told = λ x. (Some e, x) in
    let done = told_so file c.args.out.now c.put_told-in-Err.new.out (take end row) (Some e) c.put_told-in-Err.result (is ∙ ap tell (sym c.write_refused-end.ensures.text)) (omega (arith, length-take end row, c.write_refused-end.ensures.near)) c.put_told-in-Err.ensures.answers c.put_told-in-Err.ensures.out in
    record { answers = done.0; out = done.1; short = done.2 }
