use Rattle.scanning.proofs.after_word.Goals as goal
use Rattle.std.proofs.Common.{ℕ, ◌+◌, Bool, cond, List, length, get_or, drop, Some, None, sym, ap, ◌∙◌, arith}
use Rattle.std.proofs.lemmas.List.{take_rest}
use Rattle.std.proofs.lemmas.Bool.{eq-eqb, ne_eqb}
use Rattle.scanning.specs.Scanning.{after_word}
use Rattle.scanning.proofs.Words.{too_short, word_step, word_end}

pub returns-then-text-word : goal.returns-then-text-word
returns-then-text-word c = sym (too_short c.args.word.now c.args.text.now c.if-text-word.true)

pub returns-then-text-i : goal.returns-then-text-i
returns-then-text-i c =
    let i : ℕ = c.loop-i.i in
    let text : List ℕ = c.args.text.now in
    let word : List ℕ = c.args.word.now in
    sym (c.loop-i.invariant ∙ word_step word text i (omega arith) (omega arith)
    ∙ ap (λ (t : Bool). cond t (after_word (drop (i + 1) word) (drop (i + 1) text)) None) (ne_eqb (get_or text i 0) (get_or word i 0) c.if-text-i.true))

pub loop-i-preserved : goal.loop-i-preserved
loop-i-preserved c =
    let i : ℕ = c.loop-i.i in
    let text : List ℕ = c.args.text.now in
    let word : List ℕ = c.args.word.now in
    c.loop-i.invariant ∙ word_step word text i (omega arith) (omega arith)
    ∙ ap (λ (t : Bool). cond t (after_word (drop (i + 1) word) (drop (i + 1) text)) None) (eq-eqb (get_or text i 0) (get_or word i 0) c.if-text-i.false)

pub returns : goal.returns
returns c =
    let i : ℕ = c.loop-i.i in
    let text : List ℕ = c.args.text.now in
    let word : List ℕ = c.args.word.now in
    sym (c.loop-i.invariant ∙ word_end word text i c.loop-i-test.false ∙ ap (λ (n : ℕ). Some (drop n text)) (omega arith) ∙ ap (λ (xs : List ℕ). Some xs) (sym (take_rest text (length word))))
