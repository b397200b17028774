-- What follows from the laws of a rule, and what Running and Down add to them. Assumes nothing.
use Rattle.std.proofs.Common.{◌≡◌, ℕ, zero, suc, ◌+◌, ◌-◌, ◌*◌, ◌/◌, ◌<◌, ◌≤◌, List, map, length, get_or, take, replicate, sum, sym, ap, ◌∙◌, inl, inr, add-mul, mul-add, div-mul-le_self, le_of_mul-le-mul_right, mul-div_cancel, add-one, arith, take_all}
use native.Mathlib.Nat.{zero-div}
use Rattle.std.specs.List.{range_with_len}
use Rattle.std.proofs.lemmas.Nat.{mul-le}
use Rattle.std.proofs.lemmas.List.FromFn.{sum_by-map-range_with_len_more}
use Rattle.std.proofs.lemmas.List.Sums.{sum_by_more, sum_by-cons, get_or-le-sum_by}
use Rattle.std.proofs.lemmas.Bool.{cases_lt}
use Rattle.sharing.specs.Rule.{Meaning, Lawful}
use Rattle.sharing.specs.Rules.{down_at, down, reached, running}
use Rattle.sharing.specs.Theorems.{WithinThePool, LeftIsSmall, GivesAll, GivesNoMore, LawsOfSharing}
use Rattle.sharing.specs.Laws.{down_lawful}
use Rattle.sharing.proofs.Laws.{reached_mono}

module _ (m : Meaning) (law : Lawful m) where
  -- a share above the pool would be more than a cent from its exact fraction
  within : WithinThePool m
  within C us i pos lt =
      let s = get_or (m C us) i 0 in
      let near = (law.near C us i pos lt).0 in
      let most = mul-le C (get_or us i 0) C (sum us) (omega arith) (get_or-le-sum_by (λ x. x) us i 0 lt) in
      elim (cases_lt C s) [ inl h ↦ omega (arith, mul-le (C + 1) (sum us) s (sum us) (omega arith) (omega arith), add-mul C 1 (sum us)) | inr h ↦ h ]

  -- the first k shares miss the exact fractions of the first k customers by less than k cents
  pub front_near : (C : ℕ) (us : List ℕ) (k : ℕ) → 0 < sum us → k ≤ length us →
      (sum (take k (m C us)) * sum us + k ≤ C * sum (take k us) + k * sum us)
      × (C * sum (take k us) + k ≤ sum (take k (m C us)) * sum us + k * sum us)
  front_near C us zero pos h = (omega arith, omega arith)
  front_near C us (suc k) pos h =
      let lt : k < length us = omega arith in
      let s = get_or (m C us) k 0 in
      let u = get_or us k 0 in
      let old = front_near C us k pos (omega arith) in
      let near = law.near C us k pos lt in
      let ts : sum (take (suc k) (m C us)) ≡ sum (take k (m C us)) + s =
      ap (λ n. sum (take n (m C us))) (sym (add-one k)) ∙ sum_by_more (λ x. x) (m C us) k 0 (omega (arith, law.many C us)) in
      let tu : sum (take (suc k) us) ≡ sum (take k us) + u =
      ap (λ n. sum (take n us)) (sym (add-one k)) ∙ sum_by_more (λ x. x) us k 0 lt in
      let es : sum (take (suc k) (m C us)) * sum us ≡ sum (take k (m C us)) * sum us + s * sum us =
      ap (λ x. x * sum us) ts ∙ add-mul (sum (take k (m C us))) s (sum us) in
      let eu : C * sum (take (suc k) us) ≡ C * sum (take k us) + C * u =
      ap (λ x. C * x) tu ∙ mul-add C (sum (take k us)) u in
      let ek : suc k * sum us ≡ k * sum us + 1 * sum us =
      ap (λ n. n * sum us) (sym (add-one k)) ∙ add-mul k 1 (sum us) in
      (omega arith, omega arith)

  small : LeftIsSmall m
  small C us pos =
      let n = length us in
      let near = front_near C us n pos (omega arith) in
      let whole : sum (take n (m C us)) ≡ sum (m C us) = ap sum (take_all n (m C us) (omega (arith, law.many C us))) in
      let all : sum (take n us) ≡ sum us = ap sum (take_all n us (omega arith)) in
      let ew : sum (take n (m C us)) * sum us ≡ sum (m C us) * sum us = ap (λ x. x * sum us) whole in
      let ea : C * sum (take n us) ≡ C * sum us = ap (λ x. C * x) all in
      let some : 0 < n = elim (cases_lt 0 n) [
        | inl h ↦ h
        | inr h ↦
            let e : n ≡ 0 = omega arith in omega (arith, ap (λ k. sum (take k us)) e)
      ] in (
        elim (cases_lt (sum (m C us)) (C + n)) [
          | inl h ↦ h
          | inr h ↦
              omega (arith, mul-le (C + n) (sum us) (sum (m C us)) (sum us) h (omega arith), add-mul C n (sum us))
        ],
        elim (cases_lt C (sum (m C us) + n)) [
          | inl h ↦ h
          | inr h ↦
              omega (arith, mul-le (sum (m C us) + n) (sum us) C (sum us) h (omega arith), add-mul (sum (m C us)) n (sum us))
        ],
      )

-- the steps of a figure that does not fall add up to its rise
rises : (f : ℕ → ℕ) (n : ℕ) → ((k : ℕ) → k < n → f k ≤ f (k + 1)) → sum (map (λ k. f (k + 1) - f k) (range_with_len 0 n)) + f 0 ≡ f n
rises f zero up = omega arith
rises f (suc n) up =
    let old = rises f n (λ k h. up k (omega arith)) in
    let more : sum (map (λ k. f (k + 1) - f k) (range_with_len 0 (suc n))) ≡ sum (map (λ k. f (k + 1) - f k) (range_with_len 0 n)) + (f (n + 1) - f n) =
    ap (λ i. sum (map (λ k. f (k + 1) - f k) (range_with_len 0 i))) (sym (add-one n))
    ∙ sum_by-map-range_with_len_more (λ x. x) (λ k. f (k + 1) - f k) 0 n n (omega arith) in
    omega (arith, up n (omega arith), ap f (add-one n))

gives_all : GivesAll running
gives_all C us pos =
    let total = rises (reached C us) (length us) (λ k h. reached_mono C us k h) in
    let none : reached C us 0 ≡ 0 = ap (λ x. x / sum us) (omega arith) ∙ zero-div (sum us) in
    let whole : reached C us (length us) ≡ C =
    ap (λ l. C * sum l / sum us) (take_all (length us) us (omega arith)) ∙ mul-div_cancel C pos in
    omega arith

zeros : (n : ℕ) → sum (replicate n 0) ≡ 0
zeros zero = omega arith
zeros (suc n) = sum_by-cons (λ x. x) 0 (replicate n 0) ∙ omega (arith, zeros n)

-- the first k parts, without their fractions, are together at most the part of the first k
front_le : (C : ℕ) (us : List ℕ) (k : ℕ) → k ≤ length us → sum (map (down_at C us) (range_with_len 0 k)) * sum us ≤ C * sum (take k us)
front_le C us zero h = omega arith
front_le C us (suc k) h =
    let d = down_at C us k in
    let more : sum (map (down_at C us) (range_with_len 0 (suc k))) * sum us ≡ sum (map (down_at C us) (range_with_len 0 k)) * sum us + d * sum us =
    ap (λ i. sum (map (down_at C us) (range_with_len 0 i)) * sum us) (sym (add-one k))
    ∙ ap (λ x. x * sum us) (sum_by-map-range_with_len_more (λ x. x) (down_at C us) 0 k k (omega arith))
    ∙ add-mul _ d (sum us) in
    let eu : C * sum (take (suc k) us) ≡ C * sum (take k us) + C * get_or us k 0 =
    ap (λ i. C * sum (take i us)) (sym (add-one k)) ∙ ap (λ x. C * x) (sum_by_more (λ x. x) us k 0 (omega arith)) ∙ mul-add C (sum (take k us)) (get_or us k 0) in
    omega (arith, front_le C us k (omega arith), div-mul-le_self (C * get_or us k 0) (sum us))

no_more : GivesNoMore down
no_more C us = elim (cases_lt 0 (sum us)) [
  | inl pos ↦ le_of_mul-le-mul_right (omega (arith, front_le C us (length us) (omega arith), ap (λ l. C * sum l) (take_all (length us) us (omega arith)))) pos
  | inr none ↦ omega (arith, ap sum (down_lawful.idle C us (omega arith)) ∙ zeros (length us))
]

pub laws_of_sharing : LawsOfSharing
laws_of_sharing = record { within = within; small = small; running_gives_all = gives_all; down_gives_no_more = no_more }
