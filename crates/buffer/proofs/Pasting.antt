-- Bytes pasted into a buffer, and what a call leaves that pastes a text.
use Rattle.std.proofs.Common.{◌≡◌, ℕ, ◌+◌, ◌≤◌, false, ltb, List, ◌++◌, length, take, drop, Ok, Result, sym, ap, ◌∙◌, append_assoc, arith}
use borrow.Rule.Slice.PartMut.{put_mid}
use Rattle.std.proofs.lemmas.List.{drop-drop, drop_at, take_at, length-take-le, length-append}
use Rattle.std.proofs.lemmas.Bool.{le-ltb}
use Rattle.tariff.specs.Refusals.{answer, unless}
use Rattle.tariff.specs.declared.refusal.Refusal.{Refusal}
use Rattle.buffer.specs.Putting.{pasted, put_refusal}

-- a part that was written over, as the checker has it
pub put_pasted : (out bytes part : List ℕ) (place size : ℕ) → part ≡ bytes → size ≡ length bytes → put_mid place size out part ≡ pasted out place bytes
put_pasted out bytes part place size e s =
    ap (λ (xs : List ℕ). take place out ++ (xs ++ drop size (drop place out))) e
    ∙ ap (λ (xs : List ℕ). take place out ++ (bytes ++ xs)) (drop-drop size place out ∙ ap (λ (n : ℕ). drop (place + n) out) s)

-- what stands up to the end of what was pasted, and behind it
pub take_pasted : (out bytes : List ℕ) (place : ℕ) → place ≤ length out → take (place + length bytes) (pasted out place bytes) ≡ take place out ++ bytes
take_pasted out bytes place inside =
    let front : List ℕ = take place out in
    let behind : List ℕ = drop (place + length bytes) out in
    let size = length-take-le place out inside in
    ap (take (place + length bytes)) (sym (append_assoc front bytes behind))
    ∙ take_at (front ++ bytes) behind (place + length bytes) (length-append front bytes ∙ ap (λ (n : ℕ). n + length bytes) size)

pub drop_pasted : (out bytes : List ℕ) (place : ℕ) → place ≤ length out → drop (place + length bytes) (pasted out place bytes) ≡ drop (place + length bytes) out
drop_pasted out bytes place inside =
    let front : List ℕ = take place out in
    let behind : List ℕ = drop (place + length bytes) out in
    let size = length-take-le place out inside in
    ap (drop (place + length bytes)) (sym (append_assoc front bytes behind))
    ∙ drop_at (front ++ bytes) behind (place + length bytes) (length-append front bytes ∙ ap (λ (n : ℕ). n + length bytes) size)

-- pasted one behind the other
pub pasted_twice : (out xs ys : List ℕ) (place : ℕ) → place ≤ length out → pasted (pasted out place xs) (place + length xs) ys ≡ pasted out place (xs ++ ys)
pasted_twice out xs ys place inside =
    let once : List ℕ = pasted out place xs in
    let behind : drop (place + length xs + length ys) once ≡ drop (place + length (xs ++ ys)) out =
    sym (drop-drop (length ys) (place + length xs) once) ∙ ap (drop (length ys)) (drop_pasted out xs place inside)
    ∙ drop-drop (length ys) (place + length xs) out ∙ ap (λ (n : ℕ). drop n out) (omega (arith, length-append xs ys)) in
    ap (λ (zs : List ℕ). zs ++ (ys ++ drop (place + length xs + length ys) once)) (take_pasted out xs place inside)
    ∙ append_assoc (take place out) xs (ys ++ drop (place + length xs + length ys) once)
    ∙ ap (λ (zs : List ℕ). take place out ++ (xs ++ (ys ++ zs))) behind
    ∙ ap (λ (zs : List ℕ). take place out ++ zs) (sym (append_assoc xs ys (drop (place + length (xs ++ ys)) out)))

-- what a call that has room for its text answers and leaves
pub put_done : (out after text : List ℕ) (place end : ℕ) → place + length text ≤ length out → end ≡ place + length text → after ≡ pasted out place text →
    (◌≡◌ {A = Result ℕ Refusal} (Ok end) (answer (put_refusal (length out) place text) (place + length text)))
    × (after ≡ unless (put_refusal (length out) place text) out (pasted out place text))
put_done out after text place end room e written =
    let none : ltb (length out) (place + length text) ≡ false = le-ltb (length out) (place + length text) room in
    (rw none (ap (λ (n : ℕ). Ok n) e), rw none written)
