-- Figures worked by hand, as theorems of the definitions that the contracts cite.
--   thirds, gaps   the units of the worked pools
--   WorkedShares   a pool of 100 in thirds, by both rules, and a pool of 5 with one customer's units
--   WorkedFigures  the whole list, with the bills of Bills.antt and the passes of Passes.antt
use Rattle.std.specs.Prelude.{◌≡◌, ℕ, List, [], ◌∷◌, pos}
use Rattle.sharing.specs.Rule.{division}
use Rattle.sharing.specs.Rules.{down, running}
use Rattle.figures.specs.Bills.{WorkedBills}
use Rattle.figures.specs.Passes.{WorkedPasses}

abbrev pub thirds : List ℕ
thirds = 100 ∷ 100 ∷ 100 ∷ []

abbrev pub gaps : List ℕ
gaps = 0 ∷ 7 ∷ 0 ∷ []

pub record WorkedShares : Type 0 where
  pub thirds_by_down : down 100 thirds ≡ 33 ∷ 33 ∷ 33 ∷ []
  pub left_by_down : (division down 100 thirds).left ≡ pos 1
  pub thirds_by_running : running 100 thirds ≡ 33 ∷ 33 ∷ 34 ∷ []
  pub left_by_running : (division running 100 thirds).left ≡ pos 0
  pub gaps_by_running : running 5 gaps ≡ 0 ∷ 5 ∷ 0 ∷ []

pub record WorkedFigures : Type 0 where
  pub shares : WorkedShares
  pub bills : WorkedBills
  pub passes : WorkedPasses
