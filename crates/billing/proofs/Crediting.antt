-- Loops that charge station units and credit what they pay, until one area and day comes to too much.
use Rattle.std.proofs.Common.{◌≡◌, ℕ, ◌+◌, ◌*◌, ◌≤◌, Bool, cond, List, [], ◌∷◌, ◌++◌, map, length, get_or, Some, None, sym, ap, ◌∙◌, subst, mul-add, arith}
use Rattle.std.specs.List.{flat_map}
use Rattle.std.proofs.lemmas.Bool.{le-ltb}
use Rattle.std.proofs.lemmas.Grind.{flat_map-append}
use Rattle.std.proofs.lemmas.List.{flat_map_more, length_push, map-append}
use Rattle.std.proofs.lemmas.List.Sums.{sum_by-append}
use Rattle.tariff.specs.declared.refusal.Refusal.{Refusal}
use Rattle.tariff.specs.declared.refusal.Refusal.TheVariants.{StationChargesTooLarge}
use Rattle.tariff.specs.Limits.{most_amount}
use Rattle.tariff.specs.Refusals.{first_of}
use Rattle.lines.specs.declared.cell.Cell.{Cell}
use Rattle.lines.proofs.Firsts.{first_append, first_found}
use Rattle.sharing.specs.Rule.{Meaning, Lawful}
use Rattle.bill_rules.specs.Bill.{pool, counted, station_of, recovered, credit_of}
use Rattle.billing.specs.declared.basis.Basis.{Basis}
use Rattle.billing.specs.Parts.{CreditedOn, too_large_on}
use Rattle.billing.proofs.Pools.{empty_pool, many_counted}
use Rattle.billing.proofs.Recovers.{no_charge, nothing_recovered}

module _ (t : Cell → Bool × Refusal) (f : ℕ → List Cell) where
  -- no test holds so far, and none at one value more
  pub none_more : (xs : List ℕ) (x : ℕ) → first_of (map t (flat_map f xs)) ≡ None → first_of (map t (f x)) ≡ None → first_of (map t (flat_map f (xs ++ x ∷ []))) ≡ None
  none_more xs x before here =
      ap (λ ds. first_of (map t ds)) (sym (flat_map_more f [] xs x))
      ∙ ap first_of (map-append t (flat_map f xs) (f x))
      ∙ first_append (map t (flat_map f xs)) (map t (f x)) before ∙ here

  -- the first that holds is at a value before which none does
  pub found_at : (all xs rest : List ℕ) (x : ℕ) (e : Refusal) → all ≡ xs ++ x ∷ rest → first_of (map t (flat_map f xs)) ≡ None → first_of (map t (f x)) ≡ Some e → first_of (map t (flat_map f all)) ≡ Some e
  found_at all xs rest x e split before here =
      ap (λ xs. first_of (map t (flat_map f xs))) split
      ∙ ap (λ ds. first_of (map t ds)) (flat_map-append f xs (x ∷ rest))
      ∙ ap first_of (map-append t (flat_map f xs) (f x ++ flat_map f rest))
      ∙ first_append (map t (flat_map f xs)) (map t (f x ++ flat_map f rest)) before
      ∙ ap first_of (map-append t (f x) (flat_map f rest))
      ∙ first_found (map t (f x)) (map t (flat_map f rest)) e here

module _ (m : Meaning) (b : Basis) where
  -- what has been added for some areas and days and then for others is added for both
  pub credited_both : (xs ys : List Cell) (n k : ℕ) (s₀ s₁ s₂ c₀ c₁ c₂ : List ℕ) → length s₁ ≡ length s₀ → length c₁ ≡ length c₀ →
      CreditedOn m b xs n s₀ s₁ c₀ c₁ → CreditedOn m b ys k s₁ s₂ c₁ c₂ → CreditedOn m b (xs ++ ys) (n + k) s₀ s₂ c₀ c₂
  credited_both xs ys n k s₀ s₁ s₂ c₀ c₁ c₂ ls lc front here = record {
    stations_added = λ k h. omega (arith, front.stations_added k h, here.stations_added k (omega arith), sum_by-append (station_of m b.line b.sizes b.units.now b.costs.now k) xs ys);
    credits_added = λ k h. omega (arith, front.credits_added k h, here.credits_added k (omega arith), sum_by-append (credit_of m b.line b.sizes b.units.now b.costs.now k) xs ys);
    stations_rise = λ k h. omega (arith, front.stations_rise k h, here.stations_rise k (omega arith));
    credits_rise = λ k h. omega (arith, front.credits_rise k h, here.credits_rise k (omega arith));
  }

  pub credited_as : (xs ys : List Cell) (n most : ℕ) (s s' c c' : List ℕ) → xs ≡ ys → n ≤ most → CreditedOn m b xs n s s' c c' → CreditedOn m b ys most s s' c c'
  credited_as xs ys n most s s' c c' e le done = subst (λ ys. CreditedOn m b ys most s s' c c') e (record {
    stations_added = done.stations_added;
    credits_added = done.credits_added;
    stations_rise = λ k h. omega (arith, done.stations_rise k h);
    credits_rise = λ k h. omega (arith, done.credits_rise k h);
  })

  -- one value of a field more
  pub credited_more : (f : ℕ → List Cell) (u : ℕ) (xs : List ℕ) (x : ℕ) (s₀ s₁ s₂ c₀ c₁ c₂ : List ℕ) → length s₁ ≡ length s₀ → length c₁ ≡ length c₀ →
      CreditedOn m b (flat_map f xs) (u * length xs) s₀ s₁ c₀ c₁ → CreditedOn m b (f x) u s₁ s₂ c₁ c₂ → CreditedOn m b (flat_map f (xs ++ x ∷ [])) (u * length (xs ++ x ∷ [])) s₀ s₂ c₀ c₂
  credited_more f u xs x s₀ s₁ s₂ c₀ c₁ c₂ ls lc front here =
      credited_as _ _ _ _ s₀ s₂ c₀ c₂ (flat_map_more f [] xs x) (omega (arith, ap (λ n. u * n) (length_push xs x), mul-add u (length xs) 1))
      (credited_both (flat_map f xs) (f x) (u * length xs) u s₀ s₁ s₂ c₀ c₁ c₂ ls lc front here)

  -- R of an area and day without costs is not too large, and adds nothing
  pub not_too_large : (d : Cell) → recovered m b.line b.sizes b.units.now b.costs.now d ≤ most_amount → first_of (too_large_on m b (d ∷ [])) ≡ None
  not_too_large d le = ap (λ t. cond t (Some (StationChargesTooLarge d.area d.day)) None) (le-ltb most_amount (recovered m b.line b.sizes b.units.now b.costs.now d) le)

  pub credited_nothing : Lawful m → (d : Cell) (most : ℕ) (s c : List ℕ) → length c ≡ b.sizes.customers → pool m b.line b.sizes b.units.now b.costs.now d ≡ 0 → CreditedOn m b (d ∷ []) most s s c c
  credited_nothing law d most s c long none =
      let idle = nothing_recovered m b.line b.sizes b.units.now b.costs.now d none in
      let units = counted m b.line b.sizes b.units.now b.costs.now d in
      let many = many_counted m law b.line b.sizes b.units.now b.costs.now b.sound d in
      record {
        stations_added = λ k h. omega (arith, no_charge m b.line b.sizes b.units.now b.costs.now d none k);
        credits_added = λ k h. omega (arith, ap (λ R. get_or (m R units) k 0) idle, empty_pool m law units k (omega arith));
        stations_rise = λ k h. omega arith;
        credits_rise = λ k h. omega arith;
      }
