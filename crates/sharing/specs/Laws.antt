-- That the two rules keep the laws of sharing: proofs, which stand here because an implementation of the trait takes
-- them as its ghost member. Nothing of them needs to be believed.
--   down_lawful, running_lawful   Down and Running keep the laws
use Rattle.std.specs.Prelude.{◌≡◌, ℕ, ◌+◌, ◌-◌, ◌*◌, ◌/◌, ◌<◌, map, length, take, replicate, sum, slice_index, slice_index_or}
use Rattle.std.proofs.Common.{sym, ap, ◌∙◌, div-mul-le_self, mul-add, arith}
use Rattle.std.proofs.Math.Nat.{div-zero, lt-div-mul-add, mul-sub}
use Rattle.std.specs.List.{range_with_len}
use Rattle.std.proofs.lemmas.List.FromFn.{length-map-range_with_len, get_or-map-range_with_len}
use Rattle.std.proofs.lemmas.List.{ext_get_or, get_or-replicate, length-replicate}
use Rattle.std.proofs.lemmas.List.Sums.{sum_by_more}
use Rattle.sharing.specs.Rule.{Lawful}
use Rattle.sharing.specs.Rules.{down_at, down, reached, running_at, running}

-- a list made by an index is all zeros where each entry is 0
all_zero : (f : ℕ → ℕ) (n : ℕ) → ((k : ℕ) → f k ≡ 0) → map f (range_with_len 0 n) ≡ replicate n 0
all_zero f n z =
    ext_get_or 0 (map f (range_with_len 0 n)) (replicate n 0) (length-map-range_with_len f 0 n ∙ sym (length-replicate n 0))
    (λ i h.
    let lt : i < n = omega (arith, length-map-range_with_len f 0 n) in
    get_or-map-range_with_len f 0 n i i 0 lt (omega arith) ∙ z i ∙ sym (get_or-replicate n i 0 0 lt))

pub down_lawful : Lawful down
down_lawful = record {
  many = λ C us. length-map-range_with_len (down_at C us) 0 (length us);
  idle = λ C us e. all_zero (down_at C us) (length us) (λ k. ap (λ t. C * slice_index us k / t) e ∙ div-zero _);
  near = λ C us i pos lt.
      let at : slice_index_or (down C us) i 0 ≡ C * slice_index us i / sum us = get_or-map-range_with_len (down_at C us) 0 (length us) i i 0 lt (omega arith) in
      let low = div-mul-le_self (C * slice_index us i) (sum us) in
      let high = lt-div-mul-add {a = C * slice_index us i} {b = sum us} pos in
      let same : slice_index_or (down C us) i 0 * sum us ≡ C * slice_index us i / sum us * sum us = ap (λ x. x * sum us) at in
      (omega arith, omega arith);
}

-- one step of a running division by t
step_near : (a b t u : ℕ) → 0 < t → ((a + u) / t - a / t) * t ≡ b → (b < u + t) × (u < b + t)
step_near a b t u pos e =
    let la = div-mul-le_self a t in
    let ha = lt-div-mul-add {a = a} {b = t} pos in
    let lb = div-mul-le_self (a + u) t in
    let hb = lt-div-mul-add {a = a + u} {b = t} pos in
    let s = mul-sub t ((a + u) / t) (a / t) in
    (omega arith, omega arith)

pub running_lawful : Lawful running
running_lawful = record {
  many = λ C us. length-map-range_with_len (running_at C us) 0 (length us);
  idle = λ C us e. all_zero (running_at C us) (length us) (λ k.
      let a : reached C us (k + 1) ≡ 0 = ap (λ t. C * sum (take (k + 1) us) / t) e ∙ div-zero _ in
      omega arith);
  near = λ C us i pos lt.
      let at : slice_index_or (running C us) i 0 ≡ running_at C us i = get_or-map-range_with_len (running_at C us) 0 (length us) i i 0 lt (omega arith) in
      let more : C * sum (take (i + 1) us) ≡ C * sum (take i us) + C * slice_index_or us i 0 =
      ap (λ s. C * s) (sum_by_more (λ x. x) us i 0 lt) ∙ mul-add C (sum (take i us)) (slice_index us i) in
      step_near (C * sum (take i us)) _ (sum us) (C * slice_index us i) pos
      (ap (λ x. (x / sum us - reached C us i) * sum us) (sym more) ∙ ap (λ x. x * sum us) (sym at));
}
