-- Loops that charge: what the charges of some cells add to a column, and to what is stranded.
use Rattle.std.proofs.Common.{◌≡◌, ℕ, ◌+◌, ◌*◌, ◌≤◌, List, [], ◌∷◌, ◌++◌, length, get_or, sum, ap, subst, mul-add, arith}
use Rattle.std.specs.List.{flat_map}
use Rattle.std.proofs.lemmas.List.{flat_map_more, length_push}
use Rattle.std.proofs.lemmas.List.Sums.{sum_by-append}
use Rattle.lines.specs.declared.cell.Cell.{Cell}
use Rattle.lines.specs.Cells.{cell, hours, hour_cells}
use Rattle.sharing.specs.Rule.{Meaning, Lawful}
use Rattle.bill_rules.specs.Bill.{pool, counted, shares, share_of, stranded_of}
use Rattle.billing.specs.declared.basis.Basis.{Basis}
use Rattle.billing.specs.Work.{Adds}
use Rattle.billing.specs.Parts.{Charged}
use Rattle.billing.proofs.Pools.{no_pool, no_units_share, share_within, stranded_none, stranded_all, stranded_shared, idle_day, idle_stranded}

module _ (m : Meaning) (b : Basis) where
  abbrev S : Cell → ℕ
  S = stranded_of m b.line b.sizes b.units.now b.costs.now

  abbrev F : ℕ → Cell → ℕ
  F = share_of m b.line b.sizes b.units.now b.costs.now

  -- what has been charged of some cells and then of others is charged of both
  pub charged_both : (xs ys : List Cell) (n k s₀ s₁ s₂ : ℕ) (c₀ c₁ c₂ : List ℕ) → length c₁ ≡ length c₀ →
      Charged m b xs n s₀ s₁ c₀ c₁ → Charged m b ys k s₁ s₂ c₁ c₂ → Charged m b (xs ++ ys) (n + k) s₀ s₂ c₀ c₂
  charged_both xs ys n k s₀ s₁ s₂ c₀ c₁ c₂ long front here = record {
    stranded_added = omega (arith, front.stranded_added, here.stranded_added, sum_by-append S xs ys);
    charges_added = λ k h. omega (arith, front.charges_added k h, here.charges_added k (omega arith), sum_by-append (F k) xs ys);
    stranded_rises = omega (arith, front.stranded_rises, here.stranded_rises);
    charges_rise = λ k h. omega (arith, front.charges_rise k h, here.charges_rise k (omega arith));
  }

  pub charged_as : (xs ys : List Cell) (n most s s' : ℕ) (c c' : List ℕ) → xs ≡ ys → n ≤ most → Charged m b xs n s s' c c' → Charged m b ys most s s' c c'
  charged_as xs ys n most s s' c c' e le done = subst (λ ys. Charged m b ys most s s' c c') e (record {
    stranded_added = done.stranded_added;
    charges_added = done.charges_added;
    stranded_rises = omega (arith, done.stranded_rises);
    charges_rise = λ k h. omega (arith, done.charges_rise k h);
  })

  -- one value of a field more
  pub charged_more : (f : ℕ → List Cell) (u : ℕ) (xs : List ℕ) (x s₀ s₁ s₂ : ℕ) (c₀ c₁ c₂ : List ℕ) → length c₁ ≡ length c₀ →
      Charged m b (flat_map f xs) (u * length xs) s₀ s₁ c₀ c₁ → Charged m b (f x) u s₁ s₂ c₁ c₂ → Charged m b (flat_map f (xs ++ x ∷ [])) (u * length (xs ++ x ∷ [])) s₀ s₂ c₀ c₂
  charged_more f u xs x s₀ s₁ s₂ c₀ c₁ c₂ long front here =
      charged_as _ _ _ _ s₀ s₂ c₀ c₂ (flat_map_more f [] xs x) (omega (arith, ap (λ n. u * n) (length_push xs x), mul-add u (length xs) 1))
      (charged_both (flat_map f xs) (f x) (u * length xs) u s₀ s₁ s₂ c₀ c₁ c₂ long front here)

  -- what was stranded before stays
  pub charged_onto : (cs : List Cell) (n s r : ℕ) (c c' : List ℕ) → Charged m b cs n 0 r c c' → Charged m b cs n s (s + r) c c'
  charged_onto cs n s r c c' done = record {
    stranded_added = omega (arith, done.stranded_added);
    charges_added = done.charges_added;
    stranded_rises = omega (arith, done.stranded_rises);
    charges_rise = done.charges_rise;
  }

module _ (m : Meaning) (law : Lawful m) (b : Basis) (c : List ℕ) (long : length c ≡ b.sizes.customers) where
  abbrev C : Cell → ℕ
  C = pool m b.line b.sizes b.units.now b.costs.now

  abbrev K : Cell → List ℕ
  K = counted m b.line b.sizes b.units.now b.costs.now

  -- a day without costs, a cell without them, and one without units
  pub charged_idle : (a d s : ℕ) → C (cell a d 0) ≡ 0 → Charged m b (hour_cells b.line a d) 0 s s c c
  charged_idle a d s none = record {
    stranded_added = omega (arith, idle_stranded m law b.line b.sizes b.units.now b.costs.now b.sound a d (hours b.line) none);
    charges_added = λ k h. omega (arith, idle_day m law b.line b.sizes b.units.now b.costs.now b.sound a d k (hours b.line) (omega arith) none);
    stranded_rises = omega arith;
    charges_rise = λ k h. omega arith;
  }

  pub charged_nothing : (x : Cell) (most : ℕ) → C x ≡ 0 → Charged m b (x ∷ []) most 0 0 c c
  charged_nothing x most none = record {
    stranded_added = omega (arith, stranded_none m law b.line b.sizes b.units.now b.costs.now b.sound x none);
    charges_added = λ k h. omega (arith, no_pool m law b.line b.sizes b.units.now b.costs.now b.sound x k (omega arith) none);
    stranded_rises = omega arith;
    charges_rise = λ k h. omega arith;
  }

  pub charged_stranded : (x : Cell) (most s : ℕ) → s ≡ C x → s ≤ most → sum (K x) ≡ 0 → Charged m b (x ∷ []) most 0 s c c
  charged_stranded x most s is le none = record {
    stranded_added = omega (arith, stranded_all m law b.line b.sizes b.units.now b.costs.now b.sound x none);
    charges_added = λ k h. omega (arith, no_units_share m law b.line b.sizes b.units.now b.costs.now b.sound x k (omega arith) none);
    stranded_rises = omega arith;
    charges_rise = λ k h. omega arith;
  }

  pub charged_shares : (x : Cell) (most : ℕ) (column c' : List ℕ) → C x ≤ most → (sum (K x) ≡ 0 → ⊥) → column ≡ shares m b.line b.sizes b.units.now b.costs.now x → Adds c c' (λ k. get_or column k 0) → Charged m b (x ∷ []) most 0 0 c c'
  charged_shares x most column c' le some is added = record {
    stranded_added = omega (arith, stranded_shared m law b.line b.sizes b.units.now b.costs.now b.sound x some);
    charges_added = λ k h. omega (arith, added k h, ap (λ xs. get_or xs k 0) is);
    stranded_rises = omega arith;
    charges_rise = λ k h. omega (arith, added k h, ap (λ xs. get_or xs k 0) is, share_within m law b.line b.sizes b.units.now b.costs.now b.sound x k (omega arith));
  }
