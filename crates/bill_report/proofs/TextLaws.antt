-- Text made row by row. Assumes nothing.
use Rattle.std.proofs.Common.{◌≡◌, ℕ, ◌+◌, List, [], ◌∷◌, ◌++◌, sym, ap, ◌∙◌, append_assoc, arith}
use Rattle.std.specs.List.{range_with_len, flat_map}
use Rattle.std.proofs.lemmas.List.FromFn.{map-range_with_len_more}
use Rattle.std.proofs.lemmas.List.{map-id, flat_map_more}

counting_push : (k : ℕ) → range_with_len 0 k ++ k ∷ [] ≡ range_with_len 0 (k + 1)
counting_push k = sym (simp map-id at (map-range_with_len_more (λ (x : ℕ). x) 0 k k (omega arith)))

-- one row more
pub rows_more : (f : ℕ → List ℕ) (before text next : List ℕ) (k : ℕ) → text ≡ before ++ flat_map f (range_with_len 0 k) → next ≡ text ++ f k → next ≡ before ++ flat_map f (range_with_len 0 (k + 1))
rows_more f before text next k inv put =
    put ∙ ap (λ t. t ++ f k) inv ∙ flat_map_more f before (range_with_len 0 k) k ∙ ap (λ ks. before ++ flat_map f ks) (counting_push k)

-- a head, rows, and two texts after them
pub tabled : (head rows sums left h t next last : List ℕ) → h ≡ head → t ≡ h ++ rows → next ≡ t ++ sums → last ≡ next ++ left → last ≡ (head ++ rows) ++ (sums ++ left)
tabled head rows sums left h t next last eh et en el =
    let a : last ≡ ((head ++ rows) ++ sums) ++ left = cc in
    a ∙ append_assoc (head ++ rows) sums left
