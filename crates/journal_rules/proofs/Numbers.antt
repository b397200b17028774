-- A journal whose passes go by their numbers keeps them so. Assumes nothing.
use Rattle.std.proofs.Common.{◌≡◌, ℕ, ◌+◌, ◌-◌, ◌<◌, Bool, true, false, cond, eqb, ◌≢◌, List, [], ◌∷◌, ◌++◌, length, get_or, set, Some, None, Option, sym, refl, ap, ◌∙◌, subst, ⊎_elim, append-nil, arith, length-append, length-set}
use Rattle.std.specs.Option.{option_map}
use Rattle.std.proofs.lemmas.List.{get_or_append_left, get_or_past, get_or_push, get_or-set_same, get_or-set_other}
use Rattle.std.proofs.lemmas.Bool.{cases_eq, cases_lt, ne_eqb}
use Rattle.tariff.specs.declared.refusal.Refusal.{Refusal}
use Rattle.tariff.specs.declared.rows.CostRow.{CostRow}
use Rattle.tariff.specs.declared.rows.Sizes.{Sizes}
use Rattle.tariff.specs.declared.rows.UnitRow.{UnitRow}
use Rattle.sharing.specs.Rule.{Rule}
use Rattle.book_rules.specs.Machine.{Pass, new_pass, admit_refusal, remove_refusal, hand_in_refusal, post_refusal, cost_refusal, correct_refusal, freeze_refusal}
use Rattle.book_rules.specs.Run.{State, Call, remove, hand_in, post, add_cost, correct, freeze, reopen, take_in, bill, Answer, gave, not_offered, Outcome, outcome, frozen_by, stepped, step, at_opening}
use Rattle.journal_line.specs.declared.calls.Command.{Command}
use Rattle.journal_line.specs.declared.calls.Command.TheVariants.{Admit, Remove, HandIn, TakeIn, Post, Correct, Cost, Freeze, Reopen, Bill}
use Rattle.sharing.specs.declared.names.RuleName.{RuleName}
use Rattle.journal_rules.specs.Journal.{Journal, answered, held_pass, offers_to, call_for, after_call, called, step_journal, after}
use Rattle.journal_rules.specs.Numbered.{Numbered}

journal_of : State → List (Option Pass) → Journal
journal_of s held = record { state = s; held = held }

-- the last pass number, after a call that gives none
last_of : State → ℕ
last_of s = s.book.last_pass

unless_kept : (o : Option Refusal) (s new : State) (a : Answer) → last_of new ≡ last_of s → last_of (outcome o s new a).state ≡ last_of s
unfolding last_of
unless_kept None s new a h = h
unless_kept (Some e) s new a h = refl

freeze_kept : (o : Option Refusal) (s : State) → last_of (frozen_by o s).state ≡ last_of s
unfolding last_of
freeze_kept None s = refl
freeze_kept (Some e) s = refl

step_kept : (b : Bool) (s : State) (o : Outcome) → last_of o.state ≡ last_of s → last_of (stepped b s o).state ≡ last_of s
unfolding last_of
step_kept true s o h = h
step_kept false s o h = refl

-- places
held_at : (held : List (Option Pass)) (n : ℕ) (p : Pass) → held_pass held n ≡ Some p → (n ≢ 0) × (get_or held (n - 1) None ≡ Some p)
held_at held n p h = go (eqb n 0) refl
  where
    go : (b : Bool) → eqb n 0 ≡ b → (n ≢ 0) × (get_or held (n - 1) None ≡ Some p)
    go true e =
        let none : ◌≡◌ {A = Option Pass} None (Some p) = sym (ap (λ (b : Bool). cond b None (get_or held (n - 1) None)) e) ∙ h in
        cc
    go false e = (λ zero. let z : ◌≡◌ {A = Bool} true false = sym (ap (λ k. eqb k 0) zero) ∙ e in cc, sym (ap (λ (b : Bool). cond b None (get_or held (n - 1) None)) e) ∙ h)

inside : (held : List (Option Pass)) (i : ℕ) (p : Pass) → get_or held i None ≡ Some p → i < length held
inside held i p h = ⊎_elim (λ lt. lt) (λ past.
    let none : ◌≡◌ {A = Option Pass} None (Some p) = sym (get_or_past held i None past) ∙ h in
    cc) (cases_lt i (length held))

by_place : (held : List (Option Pass)) (n : ℕ) → n ≢ 0 → held_pass held n ≡ get_or held (n - 1) None
by_place held n some = ap (λ (b : Bool). cond b None (get_or held (n - 1) None)) (ne_eqb n 0 some)

-- the three ways in which the places change
module _ (j : Journal) (s : State) (numbered : Numbered j) where
  unchanged : last_of s ≡ last_of j.state → (held : List (Option Pass)) → held ≡ j.held → Numbered (journal_of s held)
  unfolding journal_of last_of
  unchanged last held e = record {
    places = ap length e ∙ numbered.places ∙ sym last;
    numbers = λ n p h. numbered.numbers n p (ap (λ (l : List (Option Pass)). held_pass l n) (sym e) ∙ h);
  }

  ended : last_of s ≡ last_of j.state → (k : ℕ) → Numbered (journal_of s (set j.held k None))
  unfolding journal_of last_of
  ended last k = record {
    places = length-set j.held k None ∙ numbered.places ∙ sym last;
    numbers = λ n p h.
        let at = held_at (set j.held k None) n p h in
        ⊎_elim
        (λ same.
        let lt : n - 1 < length j.held = omega (arith, inside (set j.held k None) (n - 1) p at.1, length-set j.held k None) in
        let there : get_or (set j.held k None) (n - 1) None ≡ None = subst (λ (i : ℕ). get_or (set j.held i None) (n - 1) None ≡ None) same (get_or-set_same j.held (n - 1) None None lt) in
        let none : ◌≡◌ {A = Option Pass} None (Some p) = sym there ∙ at.1 in
        cc)
        (λ other. numbered.numbers n p (by_place j.held n at.0 ∙ sym (get_or-set_other j.held k (n - 1) None None other) ∙ at.1))
        (cases_eq (n - 1) k);
  }

  given_one : (p : Pass) → p.mark ≡ last_of j.state + 1 → last_of s ≡ last_of j.state + 1 → Numbered (journal_of s (j.held ++ Some p ∷ []))
  unfolding journal_of last_of
  given_one p mark last = record {
    places = length-append j.held (Some p ∷ []) ∙ ap (λ n. n + 1) numbered.places ∙ sym last;
    numbers = λ n q h.
        let at = held_at (j.held ++ Some p ∷ []) n q h in
        ⊎_elim
        (λ lt. numbered.numbers n q (by_place j.held n at.0 ∙ sym (get_or_append_left j.held (Some p ∷ []) None (n - 1) lt) ∙ at.1))
        (λ past.
        let few : n - 1 < length (j.held ++ Some p ∷ []) = inside (j.held ++ Some p ∷ []) (n - 1) q at.1 in
        let some = at.0 in
        let here : length j.held ≡ n - 1 = omega (arith, few, length-append j.held (Some p ∷ [])) in
        let same : ◌≡◌ {A = Option Pass} (Some p) (Some q) = sym (get_or_push j.held (Some p) None (n - 1) here) ∙ at.1 in
        let pq : p ≡ q = cc in
        let pl = numbered.places in
        ap (λ (x : Pass). x.mark) (sym pq) ∙ mark ∙ num n at.0 (last_of j.state) (sym (sym here ∙ pl)))
        (cases_lt (n - 1) (length j.held));
  }
    where
      num : (n : ℕ) → n ≢ 0 → (m : ℕ) → m ≡ n - 1 → m + 1 ≡ n
      num n some m e = omega arith

-- one command
module _ (j : Journal) (numbered : Numbered j) where
  admitted : (o : Option Refusal) (b : Bool) (c : ℕ) (new : State) → last_of new ≡ last_of j.state + 1 →
      Numbered (after_call (Admit c) j.held (stepped b j.state (outcome o j.state new (gave (new_pass j.state.book c))))).journal
  unfolding journal_of last_of
  admitted None true c new last = given_one j new numbered (new_pass j.state.book c) refl last
  admitted (Some e) true c new last = unchanged j j.state numbered refl (j.held ++ []) (append-nil j.held)
  admitted o false c new last = unchanged j j.state numbered refl (j.held ++ []) (append-nil j.held)

  held_still : (o : Outcome) → last_of o.state ≡ last_of j.state → Numbered (journal_of o.state j.held)
  held_still o last = unchanged j o.state numbered last j.held refl

  by_pass : (command : Command) (f : Pass → Call) (held : Option Pass) → ((p : Pass) → Numbered (after_call command j.held (step j.state (f p))).journal) → Numbered (called j command (option_map f held)).journal
  by_pass command f None h = numbered
  by_pass command f (Some p) h = h p

  call_numbered : (rules : RuleName → Rule) (command : Command) → Numbered (called j command (call_for rules j command)).journal
  unfolding journal_of last_of
  call_numbered rules (Admit c) = admitted (admit_refusal j.state.book j.state.marks c) _ c _ refl
  call_numbered rules (Remove c) = held_still (step j.state (remove c)) (step_kept _ j.state _ (unless_kept (remove_refusal j.state.marks c) j.state _ _ refl))
  call_numbered rules (HandIn n) = by_pass (HandIn n) hand_in (held_pass j.held n) (λ p.
      ended j (step j.state (hand_in p)).state numbered (step_kept _ j.state _ (unless_kept (hand_in_refusal j.state.book j.state.marks p) j.state _ _ refl)) (n - 1))
  call_numbered rules (TakeIn n) = by_pass (TakeIn n) take_in (held_pass j.held n) (λ p.
      ended j (step j.state (take_in p)).state numbered (step_kept _ j.state _ refl) (n - 1))
  call_numbered rules (Post n u) = by_pass (Post n u) (λ p. post p u) (held_pass j.held n) (λ p.
      held_still (step j.state (post p u)) (step_kept _ j.state _ (unless_kept (post_refusal j.state.book j.state.units j.state.marks p u) j.state _ _ refl)))
  call_numbered rules (Correct n at q) = by_pass (Correct n at q) (λ p. correct p at q) (held_pass j.held n) (λ p.
      held_still (step j.state (correct p at q)) (step_kept _ j.state _ (unless_kept (correct_refusal j.state.book j.state.units j.state.marks p at q) j.state _ _ refl)))
  call_numbered rules (Cost n x) = by_pass (Cost n x) (λ p. add_cost p x) (held_pass j.held n) (λ p.
      held_still (step j.state (add_cost p x)) (step_kept _ j.state _ (unless_kept (cost_refusal j.state.book j.state.costs j.state.marks p x) j.state _ _ refl)))
  call_numbered rules Freeze = held_still (step j.state freeze) (step_kept _ j.state _ (freeze_kept (freeze_refusal j.state.marks) j.state))
  call_numbered rules Reopen = held_still (step j.state reopen) (step_kept _ j.state _ refl)
  call_numbered rules (Bill line rule) = held_still (step j.state (bill (rules rule) line _)) (step_kept _ j.state _ refl)

  made_numbered : (b : Bool) (rules : RuleName → Rule) (command : Command) → Numbered (cond b (called j command (call_for rules j command)) (record { journal = j; reply = answered not_offered })).journal
  made_numbered true rules command = call_numbered rules command
  made_numbered false rules command = numbered

pub after_numbered : (rules : RuleName → Rule) (j : Journal) (commands : List Command) → Numbered j → Numbered (after rules j commands)
after_numbered rules j [] numbered = numbered
after_numbered rules j (command ∷ commands) numbered =
    after_numbered rules (step_journal rules j command).journal commands (made_numbered j numbered (offers_to j.state.is_frozen command) rules command)

pub opening_numbered : (z : Sizes) (number : ℕ) (units : List UnitRow) (costs : List CostRow) → Numbered (record { state = at_opening z number units costs; held = [] })
opening_numbered z number units costs = record {
  places = refl;
  numbers = λ n p h. let lt = inside [] (n - 1) p (held_at [] n p h).1 in absurd (omega (arith, lt));
}
