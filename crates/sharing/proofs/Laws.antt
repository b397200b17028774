-- What an accepted call leaves, and that the running part does not fall.
use Rattle.std.specs.Prelude.{◌≡◌, ℕ, ◌+◌, ◌/◌, ◌<◌, ◌≤◌, List, map, length, take, Ok, sum, slice_index}
use Rattle.std.proofs.Common.{sym, ap, ◌∙◌, inl, inr, arith}
use Rattle.std.proofs.Math.Nat.{div-zero}
use Rattle.std.specs.Float.Ieee.Nearest.{div_mono}
use Rattle.std.specs.List.{range_with_len}
use Rattle.std.proofs.lemmas.Nat.{mul-le}
use Rattle.std.proofs.lemmas.List.FromFn.{fill_by_all}
use Rattle.std.proofs.lemmas.List.Sums.{sum_by_more}
use Rattle.std.proofs.lemmas.Bool.{cases_lt}
use Rattle.tariff.specs.Refusals.{answer, unless}
use Rattle.tariff.proofs.Refused.{ok_tells}
use Rattle.sharing.specs.Rule.{share_refusal}
use Rattle.sharing.specs.Rules.{reached}

-- the end of an accepted call that wrote f k at each place k
pub filled : (f : ℕ → ℕ) (pool : ℕ) (units before column : List ℕ) (total : ℕ) → Ok total ≡ answer (share_refusal pool units (length before)) (sum units) → length column ≡ length units → ((k : ℕ) → k < length units → slice_index column k ≡ f k) → column ≡ unless (share_refusal pool units (length before)) before (map f (range_with_len 0 (length units)))
filled f pool units before column total accepted same each =
    fill_by_all f column (length units) 0 same each
    ∙ sym (ap (λ o. unless o before (map f (range_with_len 0 (length units)))) (ok_tells (share_refusal pool units (length before)) total (sum units) accepted).0)

-- a quotient does not fall where its dividend does not
div_le : (a b t : ℕ) → a ≤ b → a / t ≤ b / t
div_le a b t h = elim (cases_lt 0 t) [
  | inl pos ↦ div_mono a t b t pos pos (mul-le a t b t h (omega arith))
  | inr z ↦ let e : t ≡ 0 = omega arith in omega (arith, ap (λ x. a / x) e ∙ div-zero a)
]

-- the running part does not fall
pub reached_mono : (pool : ℕ) (units : List ℕ) (i : ℕ) → i < length units → reached pool units i ≤ reached pool units (i + 1)
reached_mono pool units i lt =
    div_le _ _ (sum units) (mul-le pool (sum (take i units)) pool (sum (take (i + 1) units)) (omega arith) (omega (arith, sum_by_more (λ x. x) units i 0 lt)))
