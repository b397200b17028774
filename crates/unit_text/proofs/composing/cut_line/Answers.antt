use Rattle.std.proofs.Common.{ℕ, ◌+◌, List, ◌∷◌, take, sym, ap, ◌∙◌}
use Rattle.std.proofs.lemmas.List.{take_rest}
use Rattle.unit_text.specs.Composing.{lines_in}
use Rattle.unit_text.proofs.Assembling.{line_cut_off, last_line}
use Rattle.unit_text.proofs.composing.cut_line.Goals as goal

pub returns-in-Some-clause-lines : goal.returns-in-Some-clause-lines
returns-in-Some-clause-lines c = λ some. line_cut_off c.args.text.now c.in-Some.end c.in-Some.ensures some
    ∙ ap (λ (more : List ℕ). take c.in-Some.end c.args.text.now ∷ lines_in more) (sym (take_rest c.args.text.now (c.in-Some.end + 1)))

pub returns-in-None-clause-lines : goal.returns-in-None-clause-lines
returns-in-None-clause-lines c = λ some. last_line c.args.text.now c.in-None.ensures some
