-- When a row is at fault: by a field, or by a sum above the limit.
use Rattle.std.proofs.Common.{◌≡◌, ℕ, ◌<◌, ◌≤◌, Bool, true, false, not, ◌||◌, ltb, arith}
use Rattle.std.proofs.lemmas.Bool.Decides.{nat_tests}
use Rattle.tariff.specs.Limits.{most_amount}

pub fault_by_field : (unlawful allowed : Bool) (sum : ℕ) → allowed ≡ not unlawful → allowed ≡ false → (unlawful || ltb most_amount sum) ≡ true
fault_by_field unlawful allowed sum e f = grind (arith, nat_tests)

pub fault_by_sum : (unlawful : Bool) (sum : ℕ) → most_amount < sum → (unlawful || ltb most_amount sum) ≡ true
fault_by_sum unlawful sum above = grind (arith, nat_tests)

pub no_fault : (unlawful allowed : Bool) (sum : ℕ) → allowed ≡ not unlawful → allowed ≡ true → sum ≤ most_amount → (unlawful || ltb most_amount sum) ≡ false
no_fault unlawful allowed sum e t within = grind (arith, nat_tests)
