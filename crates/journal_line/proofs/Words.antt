-- The first word of a line, and the words of the calls and of the rules. Assumes nothing.
use Rattle.std.proofs.Common.{◌≡◌, ℕ, ◌≤◌, Bool, true, false, cond, eqb, ◌≢◌, List, [], ◌∷◌, ◌++◌, length, Some, None, Ok, Err, Option, Result, MatchResult, Bor, codes, All, IsUtf8, rules, sym, refl, ap, ◌∙◌, subst, ⊎_elim, arith}
use Rattle.std.proofs.lemmas.Bool.{cases_eq, ne_eqb, eq-eqb}
use Rattle.std.proofs.lemmas.Str.{IsUtf8-from_ascii}
use Rattle.std.proofs.lemmas.List.Elements.{recursion_from_All}
use Rattle.std.specs.List.{AllByRecursion}
use Rattle.std.specs.Result.{result_ok}
use Rattle.journal_line.specs.declared.calls.CallName.{CallName}
use Rattle.journal_line.specs.declared.calls.CallName.TheVariants.{Open, Admit, Remove, HandIn, TakeIn, Post, Correct, Cost, Freeze, Reopen, Bill}
use Rattle.journal_line.specs.Lines.{word_ends, after_first, call_in, rule_in}
use Rattle.journal_line.specs.Words.{call_word, Calls}
use Rattle.scanning.specs.Scanning.{bind, or_else, after_word, at_end}
use Rattle.sharing.specs.declared.names.RuleName.{RuleName}
use Rattle.sharing.specs.declared.names.RuleName.TheVariants.{Down, Running}
use Rattle.sharing.specs.Names.{rule_word, Names}

-- a word without a space that is not the first word of a line; a longer one may go on behind `word`

spaceless : List ℕ → Bool
spaceless [] = true
spaceless (b ∷ bs) = cond (eqb b 32) false (spaceless bs)

other_end : (x c : ℕ) (xs cs : List ℕ) → spaceless (x ∷ xs) ≡ true → word_ends (c ∷ cs) ≡ Some (c ∷ cs) → after_first (x ∷ xs) (c ∷ cs) ≡ None
unfolding spaceless
other_end x c xs cs s ends = ⊎_elim
    (λ e. ⊎_elim (λ z. let t : ◌≡◌ {A = Bool} false true = subst (λ (k : ℕ). spaceless (k ∷ xs) ≡ true) (sym e ∙ z) s in cc) (λ n. let t = rw (ne_eqb c 32 n) at ends in cc) (cases_eq c 32))
    (λ n. rw (ne_eqb c x n))
    (cases_eq c x)

spaceless_tail : (t u : Bool) → cond t false u ≡ true → u ≡ true
spaceless_tail true u h = cc
spaceless_tail false u h = h

other_word : (w word rest : List ℕ) → spaceless w ≡ true → AllByRecursion (λ b. b ≢ 32) word → (length word ≤ length w → word_ends rest ≡ Some rest) → word ≢ w → after_first w (word ++ rest) ≡ None
unfolding spaceless
other_word [] [] rest s far ends n = absurd (n refl)
other_word [] (b ∷ bs) rest s far ends n = rw (ne_eqb b 32 far.0)
other_word (x ∷ xs) [] [] s far ends n = refl
other_word (x ∷ xs) [] (c ∷ cs) s far ends n = other_end x c xs cs s (ends (omega arith))
other_word (x ∷ xs) (b ∷ bs) rest s far ends n = ⊎_elim
    (λ e. rw (eq-eqb b x e) (other_word xs bs rest (spaceless_tail (eqb x 32) (spaceless xs) s) far.1 (λ short. ends (omega arith)) (λ same. n cc)))
    (λ differs. rw (ne_eqb b x differs))
    (cases_eq b x)

call_short : (name : CallName) → length (call_word name) ≤ 7
call_short name = grind arith

pub unknown : (word rest : List ℕ) → All (λ b. b ≢ 32) word → (length word ≤ 7 → word_ends rest ≡ Some rest) → Calls word None → None ≡ call_in (word ++ rest)
unfolding spaceless
unknown word rest far ends n =
    let f = recursion_from_All (λ (b : ℕ). b ≢ 32) word far in
    let other = λ (name : CallName) (s : spaceless (call_word name) ≡ true). other_word (call_word name) word rest s f (λ short. ends (omega (arith, call_short name))) (n name) in
    sym (rw (other Open refl, other Admit refl, other Remove refl, other HandIn refl, other TakeIn refl, other Post refl, other Correct refl, other Cost refl, other Freeze refl, other Reopen refl, other Bill refl))

-- the name of a rule behind a space

not_whole : (w text : List ℕ) (name : RuleName) → text ≢ w → bind (after_word w text) (λ rest. at_end rest name) ≡ None
not_whole [] [] name n = absurd (n refl)
not_whole [] (b ∷ bs) name n = refl
not_whole (x ∷ xs) [] name n = refl
not_whole (x ∷ xs) (b ∷ bs) name n = ⊎_elim (λ e. rw (eq-eqb b x e) (not_whole xs bs name (λ same. n cc))) (λ differs. rw (ne_eqb b x differs)) (cases_eq b x)

-- neither of two
or_none : {X Y : Type 0} (o : Option X) (f : X → Option Y) (other : Option Y) → bind o f ≡ None → other ≡ None → or_else o f other ≡ None
or_none None f other h k = k
or_none (Some x) f other h k = h

pub rule_of : (word : List ℕ) (found : Option RuleName) → Names word found → found ≡ rule_in (32 ∷ word)
rule_of word (Some Down) h = rw h
rule_of word (Some Running) h = rw h
rule_of word None n =
    sym (or_none (after_word (codes "down") word) (λ (rest : List ℕ). at_end rest Down) _ (not_whole (codes "down") word Down (n Down)) (not_whole (codes "running") word Running (n Running)))

no_text : (name : RuleName) → IsUtf8 (rule_word name)
no_text Down = IsUtf8-from_ascii (codes "down") (search rules)
no_text Running = IsUtf8-from_ascii (codes "running") (search rules)

pub no_rule : (word : List ℕ) → (IsUtf8 word → ⊥) → None ≡ rule_in (32 ∷ word)
no_rule word h = rule_of word None (λ name e. h (subst IsUtf8 (sym e) (no_text name)))

-- the bytes of a text, or that they are none, by the option that is left of the result
pub text_is : {E : Type 0} (r : Result (Bor (List ℕ)) E) (word : List ℕ) (Q : E → Type 0) (text : Bor (List ℕ)) → Some text ≡ result_ok r → MatchResult r (λ s. (s.now ≡ word) × IsUtf8 word) Q → text.now ≡ word
text_is (Ok s) word Q text is h = let same : text ≡ s = cc in ap (λ (b : Bor (List ℕ)). b.now) same ∙ h.0
text_is (Err e) word Q text is h = cc

pub text_is_none : {E : Type 0} (r : Result (Bor (List ℕ)) E) (word : List ℕ) (P : Bor (List ℕ) → Type 0) (Q : E → Type 0) → None ≡ result_ok r → MatchResult r P (λ e. ¬ (IsUtf8 word) × Q e) → ¬ (IsUtf8 word)
text_is_none (Ok s) word P Q is h = cc
text_is_none (Err e) word P Q is h = h.0
