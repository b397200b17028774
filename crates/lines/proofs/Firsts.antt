-- The first of some tests that holds, where the tests go by places or one list follows another.
use Rattle.std.proofs.Common.{◌≡◌, ℕ, zero, suc, ◌+◌, ◌<◌, ◌≤◌, Bool, true, false, cond, List, [], ◌∷◌, ◌++◌, map, Some, None, sym, refl, ap, ◌∙◌, inl, inr, arith}
use Rattle.std.specs.List.{range_with_len}
use Rattle.std.proofs.lemmas.Bool.{cases_eq}
use Rattle.tariff.specs.declared.refusal.Refusal.{Refusal}
use Rattle.tariff.specs.Refusals.{first_of}

first_from : (f : ℕ → Bool) (r : ℕ → Refusal) (a n i : ℕ) → a ≤ i → i < a + n → ((k : ℕ) → a ≤ k → k < i → f k ≡ false) → f i ≡ true → first_of (map (λ k. (f k, r k)) (range_with_len a n)) ≡ Some (r i)
first_from f r a zero i lo hi before here = absurd (omega arith)
first_from f r a (suc n) i lo hi before here = elim (cases_eq a i) [
  | inl e ↦ let t : f a ≡ true = ap f e ∙ here in rw t (ap (λ k. Some (r k)) e)
  | inr ne ↦ let t : f a ≡ false = before a (omega arith) (omega arith) in rw t (first_from f r (a + 1) n i (omega arith) (omega arith) (λ k p q. before k (omega arith) q) here)
]

-- the first place whose test holds
pub first_at : (f : ℕ → Bool) (r : ℕ → Refusal) (n i : ℕ) → i < n → ((k : ℕ) → k < i → f k ≡ false) → f i ≡ true → first_of (map (λ k. (f k, r k)) (range_with_len 0 n)) ≡ Some (r i)
first_at f r n i lt before here = first_from f r 0 n i (omega arith) (omega arith) (λ k _ q. before k q) here

none_from : (f : ℕ → Bool) (r : ℕ → Refusal) (a n : ℕ) → ((k : ℕ) → a ≤ k → k < a + n → f k ≡ false) → first_of (map (λ k. (f k, r k)) (range_with_len a n)) ≡ None
none_from f r a zero all = refl
none_from f r a (suc n) all = let t : f a ≡ false = all a (omega arith) (omega arith) in rw t (none_from f r (a + 1) n (λ k p q. all k (omega arith) (omega arith)))

-- no place whose test holds
pub first_none : (f : ℕ → Bool) (r : ℕ → Refusal) (n : ℕ) → ((k : ℕ) → k < n → f k ≡ false) → first_of (map (λ k. (f k, r k)) (range_with_len 0 n)) ≡ None
first_none f r n all = none_from f r 0 n (λ k _ q. all k (omega arith))

fails_from : (f : ℕ → Bool) (r : ℕ → Refusal) (a n : ℕ) → first_of (map (λ k. (f k, r k)) (range_with_len a n)) ≡ None → (k : ℕ) → a ≤ k → k < a + n → f k ≡ false
fails_from f r a zero none k lo hi = absurd (omega arith)
fails_from f r a (suc n) none k lo hi = go (f a) refl none (λ h ne. fails_from f r (a + 1) n h k (omega arith) (omega arith))
  where
    go : (b : Bool) → f a ≡ b → cond b (Some (r a)) (first_of (map (λ k. (f k, r k)) (range_with_len (a + 1) n))) ≡ None → (first_of (map (λ k. (f k, r k)) (range_with_len (a + 1) n)) ≡ None → (a ≡ k → ⊥) → f k ≡ false) → f k ≡ false
    go true e h rest = let z : ◌≡◌ {A = ℕ} 0 1 = cc in absurd (omega arith)
    go false e h rest = elim (cases_eq a k) [ inl same ↦ ap f (sym same) ∙ e | inr ne ↦ rest h ne ]

-- where no test holds, each fails
pub first_fails : (f : ℕ → Bool) (r : ℕ → Refusal) (n : ℕ) → first_of (map (λ k. (f k, r k)) (range_with_len 0 n)) ≡ None → (k : ℕ) → k < n → f k ≡ false
first_fails f r n none k lt = fails_from f r 0 n none k (omega arith) (omega arith)

-- one list of tests after another
pub first_append : (ts us : List (Bool × Refusal)) → first_of ts ≡ None → first_of (ts ++ us) ≡ first_of us
first_append [] us e = refl
first_append (t ∷ ts) us e = go t.0 e (first_append ts us)
  where
    go : (b : Bool) → cond b (Some t.1) (first_of ts) ≡ None → (first_of ts ≡ None → first_of (ts ++ us) ≡ first_of us) → cond b (Some t.1) (first_of (ts ++ us)) ≡ first_of us
    go true h rest = let z : ◌≡◌ {A = ℕ} 0 1 = cc in absurd (omega arith)
    go false h rest = rest h

pub first_found : (ts us : List (Bool × Refusal)) (r : Refusal) → first_of ts ≡ Some r → first_of (ts ++ us) ≡ Some r
first_found [] us r e = let z : ◌≡◌ {A = ℕ} 0 1 = cc in absurd (omega arith)
first_found (t ∷ ts) us r e = go t.0 e (first_found ts us r)
  where
    go : (b : Bool) → cond b (Some t.1) (first_of ts) ≡ Some r → (first_of ts ≡ Some r → first_of (ts ++ us) ≡ Some r) → cond b (Some t.1) (first_of (ts ++ us)) ≡ Some r
    go true h rest = h
    go false h rest = rest h
