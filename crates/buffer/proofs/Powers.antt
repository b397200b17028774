-- A table of powers of ten: its rule is one test over the whole table, which antt computes.
use Rattle.std.proofs.Common.{◌≡◌, ℕ, zero, suc, ◌+◌, ◌^◌, ◌<◌, Bool, true, ◌&&◌, eqb, List, [], ◌∷◌, length, get_or, subst, arith}
use Rattle.std.proofs.lemmas.Bool.{and_parts, eqb-true}

-- each entry of a table is ten to its place, counted from i
abbrev pub powers_from : ℕ → List ℕ → Bool
powers_from i [] = true
powers_from i (x ∷ xs) = eqb x (10 ^ i) && powers_from (suc i) xs

power_from : (xs : List ℕ) (i : ℕ) → powers_from i xs ≡ true → (k : ℕ) → k < length xs → get_or xs k 0 ≡ 10 ^ (i + k)
power_from [] i t k h = absurd (omega arith)
power_from (x ∷ xs) i t zero h = subst (λ (n : ℕ). x ≡ 10 ^ n) (omega arith) (eqb-true x (10 ^ i) (and_parts (eqb x (10 ^ i)) (powers_from (suc i) xs) t).0)
power_from (x ∷ xs) i t (suc k) h =
    subst (λ (n : ℕ). get_or xs k 0 ≡ 10 ^ n) (omega arith)
    (power_from xs (suc i) (and_parts (eqb x (10 ^ i)) (powers_from (suc i) xs) t).1 k (omega arith))

pub power_at : (xs : List ℕ) → powers_from 0 xs ≡ true → (k : ℕ) → k < length xs → get_or xs k 0 ≡ 10 ^ k
power_at xs t k h = subst (λ (n : ℕ). get_or xs k 0 ≡ 10 ^ n) (omega arith) (power_from xs 0 t k h)
