use Rattle.std.proofs.Common.{◌≡◌, ℕ, ◌≤◌, List, length, map, take, ap, sym, ◌∙◌, arith}
use Rattle.std.proofs.Output.{has_written_of_eq}
use Rattle.std.proofs.lemmas.List.{take_all, length-take}
use Rattle.share_report.specs.Report.{shown_byte, shown_word}
use Rattle.share_report.proofs.excerpt.ExcerptDisplay.fmt.Goals as goal

-- so many of the first bytes are all that are shown of them
all_shown : (bytes : List ℕ) (l i : ℕ) → l ≤ 40 → length (take l bytes) ≤ i → map shown_byte (take i (take l bytes)) ≡ shown_word (take l bytes)
all_shown bytes l i few over =
    let short : length (take l bytes) ≤ 40 = omega (arith, length-take l bytes) in
    ap (map shown_byte) (take_all i (take l bytes) over ∙ sym (take_all 40 (take l bytes) short))

-- every byte of the excerpt was written
pub returns-clause-writes : goal.returns-clause-writes
returns-clause-writes g c = λ plain _.
    has_written_of_eq _ _ _ _ _ (all_shown c.args.self.now.bytes c.args.self.now.length c.loop-b.b-index c.args.self.now.few c.loop-b-test.false) (c.loop-b.invariant plain)
