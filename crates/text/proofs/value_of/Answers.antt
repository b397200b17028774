use Rattle.std.proofs.Common.{◌≡◌, ℕ, ◌+◌, ◌-◌, ◌*◌, ◌^◌, ◌<◌, ◌≤◌, true, ltb, List, length, get_or, drop, Some, sym, ap, ◌∙◌, arith}
use Rattle.std.proofs.lemmas.List.{at_drop_more, at_drop_all}
use Rattle.std.proofs.lemmas.Bool.{cond-true, cond-false, lt-ltb, le-ltb}
use Rattle.std.specs.Char.{is_ascii_digit}
use Rattle.std.specs.List.{list_all}
use Rattle.text.specs.Words.{value_from}
use Rattle.text.proofs.NumberLaws.{value_from_le, digits_front}
use Rattle.text.proofs.value_of.Goals as goal

-- the byte at the index is a digit, and digits follow it
here : (digits : List ℕ) (i : ℕ) → i < length digits → list_all is_ascii_digit (drop i digits) ≡ true → (48 ≤ get_or digits i 0) × (get_or digits i 0 ≤ 57) × (list_all is_ascii_digit (drop (i + 1) digits) ≡ true)
here digits i lt all = digits_front (get_or digits i 0) (drop (i + 1) digits) (sym (at_drop_more (list_all is_ascii_digit) digits i 0 lt) ∙ all)

pub overflow_sub-digit : goal.overflow_sub-digit
overflow_sub-digit c = omega (arith, (here c.args.digits.now c.loop-digit.digit-index c.loop-digit-test.true c.loop-digit.invariant.1).0)

-- one digit more
step : (digits : List ℕ) (i value d : ℕ) → i < length digits → d ≡ get_or digits i 0 - 48 → value_from 0 digits ≡ value_from value (drop i digits) → value_from 0 digits ≡ value_from (10 * value + d) (drop (i + 1) digits)
step digits i value d lt e inv = inv ∙ at_drop_more (value_from value) digits i 0 lt ∙ ap (λ x. value_from (10 * value + x) (drop (i + 1) digits)) (sym e)

pub returns-then-value-from : goal.returns-then-value-from
returns-then-value-from c =
    let e = step c.args.digits.now c.loop-digit.digit-index c.loop-digit.value c.from.result c.loop-digit-test.true c.from.ensures c.loop-digit.invariant.2 in
    let le = value_from_le (10 * c.loop-digit.value + c.from.result) (drop (c.loop-digit.digit-index + 1) c.args.digits.now) in
    sym (cond-false (ltb (value_from 0 c.args.digits.now) (2 ^ 32)) _ _ (le-ltb _ _ (omega arith)))

pub loop-digit-preserved : goal.loop-digit-preserved
loop-digit-preserved c = (
  omega arith,
  (here c.args.digits.now c.loop-digit.digit-index c.loop-digit-test.true c.loop-digit.invariant.1).2,
  step c.args.digits.now c.loop-digit.digit-index c.loop-digit.value c.from.result c.loop-digit-test.true c.from.ensures c.loop-digit.invariant.2,
)

pub returns : goal.returns
returns c =
    let e : value_from 0 c.args.digits.now ≡ c.loop-digit.value = c.loop-digit.invariant.2 ∙ at_drop_all (value_from c.loop-digit.value) c.args.digits.now c.loop-digit.digit-index (omega arith) in
    ap Some (sym e) ∙ sym (cond-true (ltb (value_from 0 c.args.digits.now) (2 ^ 32)) _ _ (lt-ltb _ _ (omega arith)))
