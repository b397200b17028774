-- What follows from the laws, for every rule, and what the two rules add to them.
--   WithinThePool  no share is above the pool
--   LeftIsSmall    the shares together miss the pool by less than a cent for each customer
--   GivesAll       the shares add up to the pool wherever there are units
--   GivesNoMore    the shares together are never above the pool
--   LawsOfSharing  the first two of every meaning that keeps the laws, the third of Running, the last of Down
use Rattle.std.specs.Prelude.{◌≡◌, ℕ, ◌+◌, ◌<◌, ◌≤◌, List, length, sum, slice_index}
use Rattle.sharing.specs.Rule.{Meaning, Lawful}
use Rattle.sharing.specs.Rules.{down, running}

abbrev pub WithinThePool : Meaning → Type 0
WithinThePool meaning = (pool : ℕ) (units : List ℕ) (i : ℕ) → 0 < sum units → i < length units → slice_index (meaning pool units) i ≤ pool

abbrev pub LeftIsSmall : Meaning → Type 0
LeftIsSmall meaning = (pool : ℕ) (units : List ℕ) → 0 < sum units →
    (sum (meaning pool units) < pool + length units) × (pool < sum (meaning pool units) + length units)

abbrev pub GivesAll : Meaning → Type 0
GivesAll meaning = (pool : ℕ) (units : List ℕ) → 0 < sum units → sum (meaning pool units) ≡ pool

abbrev pub GivesNoMore : Meaning → Type 0
GivesNoMore meaning = (pool : ℕ) (units : List ℕ) → sum (meaning pool units) ≤ pool

pub record LawsOfSharing : Type 0 where
  pub within : (meaning : Meaning) → Lawful meaning → WithinThePool meaning
  pub small : (meaning : Meaning) → Lawful meaning → LeftIsSmall meaning
  pub running_gives_all : GivesAll running
  pub down_gives_no_more : GivesNoMore down
