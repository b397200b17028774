-- A loop over three columns at once, by what its iterator has left. Assumes nothing.
use Rattle.std.proofs.Common.{◌≡◌, ℕ, ◌+◌, ◌<◌, ◌≤◌, List, ◌∷◌, length, drop, slice_index, sym, ap, ◌∙◌, arith, length-drop}
use Rattle.std.proofs.lemmas.List.{drop_more}

-- one turn over a column
pub turned : (xs rest next : List ℕ) (n x : ℕ) → rest ≡ drop n xs → rest ≡ x ∷ next → (n < length xs) × (x ≡ slice_index xs n) × (next ≡ drop (n + 1) xs)
turned xs rest next n x at moved =
    let d : drop n xs ≡ x ∷ next = sym at ∙ moved in
    let lt : n < length xs = omega (arith, ap length d, length-drop n xs) in
    let e : slice_index xs n ∷ drop (n + 1) xs ≡ x ∷ next = sym (drop_more xs n 0 lt) ∙ d in
    (lt, cc, cc)

-- nothing left of a column
pub passed : (xs rest : List ℕ) (n : ℕ) → rest ≡ drop n xs → length rest ≡ 0 → length xs ≤ n
passed xs rest n at none = omega (arith, ap length at, length-drop n xs)
