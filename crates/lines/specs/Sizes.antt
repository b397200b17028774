-- The sizes that a book can have.
--   outside        a number is below a least or above a most
--   unfit          a size is outside its range
--   sizes_refusal  the refusal of sizes that no book can have
use Rattle.std.specs.Prelude.{ℕ, Bool, ◌||◌, [], ◌∷◌, Option, nat_lt}
use Rattle.tariff.specs.declared.refusal.Refusal.{Refusal}
use Rattle.tariff.specs.declared.refusal.Refusal.TheVariants.{SizeOutOfRange}
use Rattle.tariff.specs.declared.rows.Sizes.{Sizes}
use Rattle.tariff.specs.Limits.{most_customers, most_days, most_subzones}
use Rattle.tariff.specs.Refusals.{first_of}

abbrev pub outside : ℕ → ℕ → ℕ → Bool
outside least most n = nat_lt n least || nat_lt most n

-- 1 to 256 customers, 1 to 31 days, 1 to 32 subzones
abbrev pub unfit : Sizes → Bool
unfit z = outside 1 most_customers z.customers || (outside 1 most_days z.days || outside 1 most_subzones z.subzones)

abbrev pub sizes_refusal : Sizes → Option Refusal
sizes_refusal z = first_of ((unfit z, SizeOutOfRange) ∷ [])
