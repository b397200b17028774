-- Sizes that have been checked.
--   sizes_of  the sizes themselves
--   checked   the answer of a check, with the plain sizes
use Rattle.std.specs.Prelude.{Ok, Err, Result}
use Rattle.tariff.specs.declared.refusal.Refusal.{Refusal}
use Rattle.tariff.specs.declared.rows.Sizes.{Sizes}
use Rattle.lines.specs.declared.sizes.BookSizes.{BookSizes}

abbrev pub sizes_of : BookSizes → Sizes
sizes_of s = s.sizes

abbrev pub checked : Result BookSizes Refusal → Result Sizes Refusal
checked (Ok s) = Ok (sizes_of s)
checked (Err e) = Err e
