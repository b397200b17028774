-- Loops over the values of a field.
use Rattle.std.proofs.Common.{◌≡◌, ℕ, suc, ◌-◌, ◌<◌, ◌≤◌, Bool, true, false, List, [], ◌∷◌, ◌++◌, length, get_or, take, drop, Some, None, Option, sym, refl, ap, ◌∙◌, subst, drop-cons, arith}
use Rattle.std.specs.declared.ops.Range.{Range}
use Rattle.std.specs.Iterator.{Yields}
use Rattle.std.proofs.iter.Yields.{nat_range_steps}
use Rattle.std.proofs.lemmas.Iterator.{YieldsList, YieldsList-from_range}
use Rattle.std.proofs.lemmas.Iterator.Consumers.{YieldsList-so_far, YieldsList-turn, YieldsList-end}
use Rattle.std.proofs.lemmas.List.{map-id, take-append-drop}
use Rattle.std.proofs.lemmas.List.FromFn.{length-range_with_len, get_or-range_with_len}
use Rattle.std.proofs.lemmas.Bool.{true≢false}
use Rattle.lines.specs.Cells.{axis}
use Rattle.billing.specs.Work.{OnAxis, Spans}

-- few values, each of the axis
pub axis_few : (b : Bool) (most n : ℕ) → most ≤ n → 1 ≤ n → length (axis b most) ≤ n
axis_few true most n le one = omega (arith, length-range_with_len 1 most)
axis_few false most n le one = omega arith

pub on_axis : (b : Bool) (most i x : ℕ) → i < length (axis b most) → x ≡ get_or (axis b most) i x → OnAxis b x
on_axis true most i x lt is = (λ _. omega (arith, get_or-range_with_len 1 most i x (omega (arith, length-range_with_len 1 most))), λ f. absurd (true≢false f))
on_axis false most i x lt is = (λ t. absurd (true≢false (sym t)), λ _. let z : i ≡ 0 = omega arith in is ∙ ap (λ i. get_or (0 ∷ []) i x) z)

-- what a loop has met at a turn, and when it ends
pub record Turn (all xs : List ℕ) (x : ℕ) : Type 0 where
  pub before : length xs < length all
  pub here : x ≡ get_or all (length xs) x
  pub split : all ≡ xs ++ x ∷ drop (suc (length xs)) all

module _ (all : List ℕ) (made it : Range ℕ) (spans : Spans made all) (same : it ≡ made) where
  road : YieldsList nat_range_steps (λ x. x) it all
  road = subst (YieldsList nat_range_steps (λ x. x) it) spans (YieldsList-from_range made.start made.end (made.end - made.start) same refl)

  pub turn : (xs : List ℕ) (s u : Range ℕ) (o : Option ℕ) (x : ℕ) → Yields nat_range_steps it xs s → o ≡ Some x → nat_range_steps s o u → Turn all xs x
  turn xs s u o x y is step =
      let t = YieldsList-turn road xs s y o u x is step in
      let before : take (length xs) all ≡ xs = sym (YieldsList-so_far road xs s y) ∙ map-id xs in
      record {
        before = t.0;
        here = t.1;
        split =
            sym (take-append-drop (length xs) all)
            ∙ ap (λ ys. ys ++ drop (length xs) all) before
            ∙ ap (λ ys. xs ++ ys) (drop-cons all (length xs) x t.0 ∙ ap (λ y. y ∷ drop (suc (length xs)) all) (sym t.1));
      }

  pub ended : (xs : List ℕ) (s u : Range ℕ) (o : Option ℕ) → Yields nat_range_steps it xs s → o ≡ None → nat_range_steps s o u → xs ≡ all
  ended xs s u o y is step = sym (map-id xs) ∙ (YieldsList-end road xs s y o u is step).0
