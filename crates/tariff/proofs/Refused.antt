-- What an answer tells of the refusal that it was made of. Assumes nothing.
use Rattle.std.proofs.Common.{◌≡◌, ℕ, Bool, true, false, cond, Some, None, Ok, Err, Option, refl, arith}
use Rattle.tariff.specs.declared.refusal.Refusal.{Refusal}
use Rattle.tariff.specs.Refusals.{answer}

-- an accepted call had no refusal, and answers its value
pub ok_tells : {X : Type 0} (o : Option Refusal) (x y : X) → Ok x ≡ answer o y → (o ≡ None) × (x ≡ y)
ok_tells None x y h = (refl, cc)
ok_tells (Some e) x y h = let z : ◌≡◌ {A = ℕ} 0 1 = cc in absurd (omega arith)

-- a refused call answers the refusal
pub err_tells : {X : Type 0} (o : Option Refusal) (e : Refusal) (y : X) → Err e ≡ answer o y → o ≡ Some e
err_tells None e y h = let z : ◌≡◌ {A = ℕ} 0 1 = cc in absurd (omega arith)
err_tells (Some d) e y h = cc

-- a single test that gave no refusal did not hold
pub none_tells : (b : Bool) (e : Refusal) → cond b (Some e) None ≡ None → b ≡ false
none_tells true e h = let z : ◌≡◌ {A = ℕ} 0 1 = cc in absurd (omega arith)
none_tells false e h = refl
