use Rattle.std.proofs.Common.{◌≡◌, ◌∷◌, [], Some, None, rules}
use Rattle.std.proofs.lemmas.Bool.Decides.{Decides-eqb}
use Rattle.std.proofs.lemmas.Slice.Eq.{strip_prefix_is}
use Rattle.journal_line.proofs.Words.{rule_of, no_rule, text_is, text_is_none}
use Rattle.journal_line.proofs.parsing.rule_in.Goals as goal

pub returns-in_err-ok : goal.returns-in_err-ok
returns-in_err-ok c =
    let word = c.in_ok-word.word.now in
    let t : c.args.text.now ≡ 32 ∷ word = strip_prefix_is Decides-eqb c.args.text.now (32 ∷ []) (Some c.in_ok-word.word) c.in_ok-word.ensures.cases in
    let given : c.from_residual-in_err-ok.result ≡ None = search rules in
    rw (t, given) (no_rule word (text_is_none c.from_utf8.result word _ _ c.in_err-ok.ensures.value c.from_utf8.ensures.cases))

pub returns : goal.returns
returns c =
    let word = c.in_ok-word.word.now in
    let t : c.args.text.now ≡ 32 ∷ word = strip_prefix_is Decides-eqb c.args.text.now (32 ∷ []) (Some c.in_ok-word.word) c.in_ok-word.ensures.cases in
    rw (t, ← text_is c.from_utf8.result word _ c.in_ok-ok.field-0 c.in_ok-ok.ensures.value c.from_utf8.ensures.cases) (rule_of c.in_ok-ok.field-0.now c.named.result c.named.ensures)
