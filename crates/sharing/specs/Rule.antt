-- What a sharing rule is: a pool of cents, shared among customers by their units.
--   Meaning        from a pool and the units of each customer to the share of each
--   Lawful         the laws that every rule keeps
--   Rule           a meaning that keeps them
--   share_refusal  when a rule's call is refused, by the pool, the units and the places of the column
--   Division       all that a division of a pool comes to
--   division       what a rule's meaning gives for a pool and units
use Rattle.std.specs.Prelude.{◌≡◌, ℕ, ◌+◌, ◌*◌, ◌<◌, not, ◌||◌, List, [], ◌∷◌, length, replicate, pos, ◌-ℤ◌, sum, Option, ◌==◌, nat_lt, slice_index}
use Rattle.tariff.specs.declared.refusal.Refusal.{Refusal}
use Rattle.tariff.specs.declared.refusal.Refusal.TheVariants.{RuleInput}
use Rattle.tariff.specs.Limits.{most_customers, most_amount}
use Rattle.tariff.specs.Refusals.{first_of}
use Rattle.sharing.specs.declared.Division.{Division}

abbrev pub Meaning : Type 0
Meaning = ℕ → List ℕ → List ℕ

-- With C the pool and T the sum of the units: as many shares as units; all 0 where T is 0; else
-- share × T and C × units differ by less than T, so that each share is within a cent of C × units ÷ T.
pub record Lawful (meaning : Meaning) : Type 0 where
  pub many : (pool : ℕ) (units : List ℕ) → length (meaning pool units) ≡ length units
  pub idle : (pool : ℕ) (units : List ℕ) → sum units ≡ 0 → meaning pool units ≡ replicate (length units) 0
  pub near : (pool : ℕ) (units : List ℕ) (i : ℕ) → 0 < sum units → i < length units →
      (slice_index (meaning pool units) i * sum units < pool * slice_index units i + sum units)
      × (pool * slice_index units i < slice_index (meaning pool units) i * sum units + sum units)

pub record Rule : Type 0 where
  pub meaning : Meaning
  pub lawful : Lawful meaning

-- lists of unlike length or above 256, a pool or a sum of units above 2147483647
abbrev pub share_refusal : ℕ → List ℕ → ℕ → Option Refusal
share_refusal pool units places =
    first_of ((not (places == length units) || (nat_lt most_customers (length units) || (nat_lt most_amount pool || nat_lt most_amount (sum units))), RuleInput) ∷ [])

-- the units and the shares of all customers, and the pool less the shares
abbrev pub division : Meaning → ℕ → List ℕ → Division
division meaning pool units = record {
  units = sum units;
  shares = sum (meaning pool units);
  left = pos pool -ℤ pos (sum (meaning pool units));
}
