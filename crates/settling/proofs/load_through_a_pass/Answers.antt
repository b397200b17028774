use Rattle.std.proofs.Common.{sym, ◌∙◌}
use Rattle.book_rules.specs.Run.{opened}
use Rattle.book.specs.Shown.{open_book, pass_of}
use Rattle.settling.proofs.Settles.{admitted, load_refused, load_done}
use Rattle.settling.proofs.load_through_a_pass.Goals as goal

pub returns-in-Some : goal.returns-in-Some
returns-in-Some c =
    let us = c.args.units.now in
    let cs = c.args.costs.now in
    let bs = c.args.bytes.now in
    let p = pass_of c.in_ok-pass.pass in
    let loaded = c.load-report.new in
    let t = opened (open_book c.admit.new.self) us cs c.admit.new.marks in
    let u = opened (open_book loaded.self) loaded.units loaded.costs c.admit.new.marks in
    let v = opened (open_book loaded.self) loaded.units loaded.costs c.hand_in-ended.new.marks in
    load_refused t u v p bs c.load-report.result c.hand_in-ended.result c.load-report.ensures (c.hand_in-ended.ensures loaded.units loaded.costs) c.in-Some.refusal (sym c.refusal.ensures ∙ c.in-Some.is)
    ∙ sym (admitted (open_book c.args.book.now) us cs c.args.marks.now bs t p (c.in_ok-pass.ensures us cs))

pub returns-in-None : goal.returns-in-None
returns-in-None c =
    let us = c.args.units.now in
    let cs = c.args.costs.now in
    let bs = c.args.bytes.now in
    let p = pass_of c.in_ok-pass.pass in
    let loaded = c.load-report.new in
    let t = opened (open_book c.admit.new.self) us cs c.admit.new.marks in
    let u = opened (open_book loaded.self) loaded.units loaded.costs c.admit.new.marks in
    let v = opened (open_book loaded.self) loaded.units loaded.costs c.hand_in-ended.new.marks in
    load_done t u v p bs c.load-report.result c.hand_in-ended.result c.load-report.ensures (c.hand_in-ended.ensures loaded.units loaded.costs) (sym c.refusal.ensures ∙ c.in-None.is)
    ∙ sym (admitted (open_book c.args.book.now) us cs c.args.marks.now bs t p (c.in_ok-pass.ensures us cs))
