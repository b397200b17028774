-- A file settled in equal tables. Assumes nothing.
use Rattle.std.proofs.Common.{◌≡◌, ℕ, List, ap, ◌∙◌}
use Rattle.tariff.specs.declared.rows.Sizes.{Sizes}
use Rattle.tariff.specs.declared.rows.UnitRow.{UnitRow}
use Rattle.tariff.specs.declared.rows.CostRow.{CostRow}
use Rattle.settling.specs.Settling.{settlement}

pub same_start : (z : Sizes) (us us' : List UnitRow) (cs cs' : List CostRow) (ms ms' bytes : List ℕ) → us ≡ us' → cs ≡ cs' → ms ≡ ms' → settlement z us cs ms bytes ≡ settlement z us' cs' ms' bytes
same_start z us us' cs cs' ms ms' bytes p q r = ap (λ k. settlement z k cs ms bytes) p ∙ ap (λ k. settlement z us' k ms bytes) q ∙ ap (λ k. settlement z us' cs' k bytes) r
