-- Sums over lists, of numbers and of integers.
use Rattle.std.proofs.Common.{◌≡◌, ℕ, ◌+◌, ◌≤◌, Bool, true, false, cond, List, [], ◌∷◌, map, length, get_or, ℤ, pos, ◌+ℤ◌, fold, sum_by, sum, sym, refl, ap, ◌∙◌, arith}
use mathlib.Core.Path.{fun_ext}
use Rattle.std.specs.List.{range_with_len, flat_map, AllByRecursion}
use Rattle.std.proofs.lemmas.List.Sums.{sum_by-cons, sum_by-append, sum-map, sum_by-le-sum_by}
use Rattle.std.proofs.lemmas.Int.{ints}
use Rattle.std.proofs.lemmas.List.FromFn.{fill_by_all}
use Rattle.bill_rules.specs.Bill.{sum_z}

pub sum_by_zero : {X : Type 0} (xs : List X) → sum_by (λ _. 0) xs ≡ 0
sum_by_zero [] = refl
sum_by_zero (x ∷ xs) = omega (arith, sum_by-cons (λ _. 0) x xs, sum_by_zero xs)

pub sum_by_add : {X : Type 0} (f g : X → ℕ) (xs : List X) → sum_by (λ x. f x + g x) xs ≡ sum_by f xs + sum_by g xs
sum_by_add f g [] = refl
sum_by_add f g (x ∷ xs) = omega (arith, sum_by-cons (λ x. f x + g x) x xs, sum_by-cons f x xs, sum_by-cons g x xs, sum_by_add f g xs)

pub sum_by_same : {X : Type 0} (f g : X → ℕ) (xs : List X) → AllByRecursion (λ x. f x ≡ g x) xs → sum_by f xs ≡ sum_by g xs
sum_by_same f g [] all = refl
sum_by_same f g (x ∷ xs) (e, all) = omega (arith, sum_by-cons f x xs, sum_by-cons g x xs, sum_by_same f g xs all)

pub sum_by_eq : {X : Type 0} (f g : X → ℕ) (xs : List X) → ((x : X) → f x ≡ g x) → sum_by f xs ≡ sum_by g xs
sum_by_eq f g xs e = ap (λ h. sum_by h xs) (fun_ext e)

pub sum_by_mono : {X : Type 0} (f g : X → ℕ) → ((x : X) → f x ≤ g x) → (xs : List X) → sum_by f xs ≤ sum_by g xs
sum_by_mono f g h xs = sum_by-le-sum_by f g xs h

pub sum_by_swap : {X Y : Type 0} (f : X → Y → ℕ) (xs : List X) (ys : List Y) → sum_by (λ x. sum_by (f x) ys) xs ≡ sum_by (λ y. sum_by (λ x. f x y) xs) ys
sum_by_swap f [] ys = sym (sum_by_zero ys)
sum_by_swap f (x ∷ xs) ys =
    sum_by-cons (λ x. sum_by (f x) ys) x xs
    ∙ ap (λ n. sum_by (f x) ys + n) (sum_by_swap f xs ys)
    ∙ sym (sum_by_add (f x) (λ y. sum_by (λ x. f x y) xs) ys)
    ∙ sum_by_eq (λ y. f x y + sum_by (λ x. f x y) xs) (λ y. sum_by (λ x. f x y) (x ∷ xs)) ys (λ y. sym (sum_by-cons (λ x. f x y) x xs))

pub sum_by_map : {X Y : Type 0} (f : Y → ℕ) (g : X → Y) (xs : List X) → sum_by f (map g xs) ≡ sum_by (λ x. f (g x)) xs
sum_by_map f g [] = refl
sum_by_map f g (x ∷ xs) = omega (arith, sum_by-cons f (g x) (map g xs), sum_by-cons (λ x. f (g x)) x xs, sum_by_map f g xs)

pub sum_by_joined : {X Y : Type 0} (f : Y → ℕ) (g : X → List Y) (xs : List X) → sum_by f (flat_map g xs) ≡ sum_by (λ x. sum_by f (g x)) xs
sum_by_joined f g [] = refl
sum_by_joined f g (x ∷ xs) = omega (arith, sum_by-append f (g x) (flat_map g xs), sum_by-cons (λ x. sum_by f (g x)) x xs, sum_by_joined f g xs)

pub sum_by_pull : {X : Type 0} (b : Bool) (f : X → ℕ) (xs : List X) → sum_by (λ x. cond b (f x) 0) xs ≡ cond b (sum_by f xs) 0
sum_by_pull true f xs = refl
sum_by_pull false f xs = sum_by_zero xs

-- the entries of a list, by their places
pub sum_places : (xs : List ℕ) (n : ℕ) → length xs ≡ n → sum_by (λ k. get_or xs k 0) (range_with_len 0 n) ≡ sum xs
sum_places xs n e = sym (sum-map (λ k. get_or xs k 0) (range_with_len 0 n)) ∙ ap sum (sym (fill_by_all (λ k. get_or xs k 0) xs n 0 e (λ k h. refl)))

folded_from : {X : Type 0} (f : X → ℤ) (a : ℤ) (xs : List X) → fold (λ a x. a +ℤ f x) a xs ≡ a +ℤ sum_z f xs
folded_from f a [] = omega (arith, ints)
folded_from f a (x ∷ xs) = let p = folded_from f (a +ℤ f x) xs in let q = folded_from f (pos 0 +ℤ f x) xs in omega (arith, ints)

pub sum_z_cons : {X : Type 0} (f : X → ℤ) (x : X) (xs : List X) → sum_z f (x ∷ xs) ≡ f x +ℤ sum_z f xs
sum_z_cons f x xs = let p = folded_from f (pos 0 +ℤ f x) xs in omega (arith, ints)

pub sum_z_same : {X : Type 0} (f g : X → ℤ) (xs : List X) → AllByRecursion (λ x. f x ≡ g x) xs → sum_z f xs ≡ sum_z g xs
sum_z_same f g [] all = refl
sum_z_same f g (x ∷ xs) (e, all) = sum_z_cons f x xs ∙ ap (λ a. a +ℤ sum_z f xs) e ∙ ap (λ b. g x +ℤ b) (sum_z_same f g xs all) ∙ sym (sum_z_cons g x xs)

-- where each part balances, the sums do
pub sums_balance : {X : Type 0} (f g h : X → ℕ) (s : X → ℤ) (xs : List X) → ((x : X) → (pos (f x) +ℤ s x) +ℤ pos (g x) ≡ pos (h x)) → (pos (sum_by f xs) +ℤ sum_z s xs) +ℤ pos (sum_by g xs) ≡ pos (sum_by h xs)
sums_balance f g h s [] e = refl
sums_balance f g h s (x ∷ xs) e =
    let here = e x in
    let rest = sums_balance f g h s xs e in
    let a = sum_by-cons f x xs in
    let b = sum_by-cons g x xs in
    let c = sum_by-cons h x xs in
    let d = sum_z_cons s x xs in
    omega (arith, ints)
