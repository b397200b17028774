-- The rows of the customers, one behind the other.
use Rattle.std.proofs.Common.{◌≡◌, ℕ, ◌+◌, ◌<◌, List, [], ◌∷◌, ◌++◌, length, get_or, sym, ap, ◌∙◌, zero-add, arith}
use Rattle.std.specs.List.{range_with_len, flat_map, zip, enumerate_from}
use Rattle.std.proofs.lemmas.List.FromFn.{map-range_with_len_more, length-enumerate_from, get_or-enumerate_from}
use Rattle.std.proofs.lemmas.List.{map-id, flat_map_more, get_or_default}
use Rattle.std.proofs.lemmas.Slice.Zip.{length-zip, get_or-zip}
use Rattle.line_rows.specs.Rows.{row_unless, customer_row}

counting_push : (k : ℕ) → range_with_len 0 k ++ k ∷ [] ≡ range_with_len 0 (k + 1)
counting_push k = sym (simp map-id at (map-range_with_len_more (λ (x : ℕ). x) 0 k k (omega arith)))

rows_push : (f : ℕ → List ℕ) (k : ℕ) → flat_map f (range_with_len 0 k) ++ f k ≡ flat_map f (range_with_len 0 (k + 1))
rows_push f k = flat_map_more f [] (range_with_len 0 k) k ∙ ap (flat_map f) (counting_push k)

-- a customer with its three figures, as a loop over the columns has them
abbrev Turn : Type 0
Turn = ℕ × ((ℕ × ℕ) × ℕ)

abbrev turns : List ℕ → List ℕ → List ℕ → List Turn
turns charges stations credits = enumerate_from 0 (zip (zip charges stations) credits)

abbrev turn_row : ℕ → Turn → List ℕ
turn_row n t = row_unless n t.0 t.1.0.0 t.1.0.1 t.1.1

pub row_next : (n : ℕ) (charges stations credits : List ℕ) (k : ℕ) (t : Turn) → (k < length (turns charges stations credits)) × (t ≡ get_or (turns charges stations credits) k t) →
    flat_map (customer_row n charges stations credits) (range_with_len 0 k) ++ turn_row n t ≡ flat_map (customer_row n charges stations credits) (range_with_len 0 (k + 1))
row_next n charges stations credits k t (lt, is) =
    let pairs = zip charges stations in
    let triples = zip pairs credits in
    let none : (ℕ × ℕ) × ℕ = ((0, 0), 0) in
    let l₁ = length-enumerate_from 0 triples in
    let l₂ = length-zip pairs credits in
    let l₃ = length-zip charges stations in
    let at : t ≡ (k, get_or triples k t.1) = is ∙ get_or-enumerate_from 0 triples k t (omega arith) ∙ ap (λ (j : ℕ). (j, get_or triples k t.1)) (zero-add k) in
    let figures : get_or triples k t.1 ≡ ((get_or charges k 0, get_or stations k 0), get_or credits k 0) =
    get_or_default triples k t.1 none (omega arith) ∙ get_or-zip pairs credits k none (omega arith) (omega arith) ∙ ap (λ (p : ℕ × ℕ). (p, get_or credits k 0)) (get_or-zip charges stations k (0, 0) (omega arith) (omega arith)) in
    let whole : t ≡ (k, ((get_or charges k 0, get_or stations k 0), get_or credits k 0)) = at ∙ ap (λ (f : (ℕ × ℕ) × ℕ). (k, f)) figures in
    ap (λ (u : Turn). flat_map (customer_row n charges stations credits) (range_with_len 0 k) ++ turn_row n u) whole ∙ rows_push (customer_row n charges stations credits) k
