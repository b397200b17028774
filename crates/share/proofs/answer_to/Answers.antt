use Rattle.std.proofs.Common.{◌≡◌, ℕ, ◌-◌, ◌++◌, ℤ, pos, ◌-ℤ◌, sum, arith, rules}
use Rattle.std.proofs.lemmas.Int.{ints}
use Rattle.sharing.specs.Rules.{down, running}
use Rattle.sharing.specs.Laws.{down_lawful}
use Rattle.sharing.proofs.Theorems.{laws_of_sharing}
use Rattle.share_report.specs.Report.{sum_text, left_text}
use Rattle.share.specs.Answer.{LeftShown}
use Rattle.share.proofs.answer_to.Goals as goal

foot : (units d r d' r' : ℕ) (x y x' y' : ℤ) → d ≡ d' → r ≡ r' → x ≡ x' → y ≡ y' → sum_text units d r ++ left_text x y ≡ sum_text units d' r' ++ left_text x' y'
foot units d r d' r' x y x' y' ed er ex ey = cc

left_shown : LeftShown
left_shown pool units some =
    let most = laws_of_sharing.down_gives_no_more pool units in
    let near = laws_of_sharing.small down down_lawful pool units some in
    let all = laws_of_sharing.running_gives_all pool units some in
    let d = sum (down pool units) in (
      pool - d,
      omega arith,
      foot (sum units) d (sum (running pool units)) (pool - (pool - d)) pool (pos pool -ℤ pos d) (pos pool -ℤ pos (sum (running pool units))) (pos (pool - d)) (pos 0)
          (omega arith) all (omega (arith, ints)) (omega (arith, ints)),
    )

pub returns : goal.returns
returns c = record { answers = search rules; left = left_shown }
