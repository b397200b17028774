-- A text at its end.
use Rattle.std.proofs.Common.{◌≡◌, ℕ, ◌<◌, ◌≤◌, List, [], ◌∷◌, length, Some, None, refl, arith}
use Rattle.std.specs.Option.{option_map}
use Rattle.scanning.specs.Scanning.{at_end}

pub not_at_end : {X : Type 0} (text : List ℕ) (x : X) → 0 < length text → None ≡ at_end text x
not_at_end [] x h = absurd (omega arith)
not_at_end (b ∷ bs) x h = refl

pub at_end_is : {X : Type 0} (text : List ℕ) (x : X) → length text ≤ 0 → Some x ≡ at_end text x
at_end_is [] x h = refl
at_end_is (b ∷ bs) x h = absurd (omega arith)

-- a value changed before or after the test
pub at_end_of : {X Y : Type 0} (f : X → Y) (text : List ℕ) (x : X) → option_map f (at_end text x) ≡ at_end text (f x)
at_end_of f [] x = refl
at_end_of f (b ∷ bs) x = refl
