-- The calls of a list of commands: the book offers each at its moment, they lead to the journal's book,
-- and their answers are those that the journal gave. Assumes nothing.
use Rattle.std.proofs.Common.{◌≡◌, Bool, true, false, cond, List, [], ◌∷◌, ◌++◌, Some, None, Ok, Err, Option, Result, sym, refl, ap, ◌∙◌, subst}
use Rattle.std.specs.Option.{option_map}
use Rattle.sharing.specs.Rule.{Rule}
use Rattle.tariff.specs.declared.refusal.Refusal.{Refusal}
use Rattle.bill_rules.specs.Bill.{Figures}
use Rattle.book_rules.specs.Machine.{Pass, admit_refusal, remove_refusal, hand_in_refusal, post_refusal, cost_refusal, correct_refusal, freeze_refusal, book_bill}
use Rattle.book_rules.specs.Run.{State, Call, admit, remove, hand_in, post, add_cost, correct, freeze, reopen, take_in, bill, Answer, not_offered, outcome, frozen_by, told_bill, perform, stepped, step, offers, Offered, final, answers}
use Rattle.journal_line.specs.declared.calls.Command.{Command}
use Rattle.journal_line.specs.declared.calls.Command.TheVariants.{Admit, Remove, HandIn, TakeIn, Post, Correct, Cost, Freeze, Reopen, Bill}
use Rattle.sharing.specs.declared.names.RuleName.{RuleName}
use Rattle.journal_rules.specs.Journal.{Journal, Reply, answered, no_pass, held_pass, offers_to, call_for, called, step_journal, after, replies, listed, made_by, calls_of, answer_in, answers_in}

pub offered-++ : (s : State) (xs ys : List Call) → Offered s xs → Offered (final s xs) ys → Offered s (xs ++ ys)
offered-++ s [] ys a b = b
offered-++ s (x ∷ xs) ys a b = (a.0, offered-++ (step s x).state xs ys a.1 b)

pub offered_before : (s : State) (xs ys : List Call) → Offered s (xs ++ ys) → Offered s xs
offered_before s [] ys h = tt
offered_before s (x ∷ xs) ys h = (h.0, offered_before (step s x).state xs ys h.1)

pub offered_behind : (s : State) (xs ys : List Call) → Offered s (xs ++ ys) → Offered (final s xs) ys
offered_behind s [] ys h = h
offered_behind s (x ∷ xs) ys h = offered_behind (step s x).state xs ys h.1

pub final-++ : (s : State) (xs ys : List Call) → final s (xs ++ ys) ≡ final (final s xs) ys
final-++ s [] ys = refl
final-++ s (x ∷ xs) ys = final-++ (step s x).state xs ys

answers-++ : (s : State) (xs ys : List Call) → answers s (xs ++ ys) ≡ answers s xs ++ answers (final s xs) ys
answers-++ s [] ys = refl
answers-++ s (x ∷ xs) ys = ap (λ (l : List Answer). (step s x).answer ∷ l) (answers-++ (step s x).state xs ys)

-- a call that a command asks for is offered where the command is
OfferedAs : State → Bool → Option Call → Type 0
OfferedAs s b None = Unit {0}
OfferedAs s b (Some call) = offers s call ≡ b

by_pass : (s : State) (b : Bool) (f : Pass → Call) (held : Option Pass) → ((p : Pass) → offers s (f p) ≡ b) → OfferedAs s b (option_map f held)
unfolding OfferedAs
by_pass s b f None h = tt
by_pass s b f (Some p) h = h p

call_offered : (rules : RuleName → Rule) (j : Journal) (command : Command) → OfferedAs j.state (offers_to j.state.is_frozen command) (call_for rules j command)
unfolding OfferedAs
call_offered rules j (Admit c) = refl
call_offered rules j (Remove c) = refl
call_offered rules j (HandIn n) = by_pass j.state _ hand_in (held_pass j.held n) (λ p. refl)
call_offered rules j (TakeIn n) = by_pass j.state _ take_in (held_pass j.held n) (λ p. refl)
call_offered rules j (Post n u) = by_pass j.state _ (λ p. post p u) (held_pass j.held n) (λ p. refl)
call_offered rules j (Correct n at q) = by_pass j.state _ (λ p. correct p at q) (held_pass j.held n) (λ p. refl)
call_offered rules j (Cost n r) = by_pass j.state _ (λ p. add_cost p r) (held_pass j.held n) (λ p. refl)
call_offered rules j Freeze = refl
call_offered rules j Reopen = refl
call_offered rules j (Bill line rule) = refl

-- an offered call is answered
unless_refused : (o : Option Refusal) (s new : State) (a : Answer) → answer_in a ≡ a ∷ [] → answer_in (outcome o s new a).answer ≡ (outcome o s new a).answer ∷ []
unless_refused None s new a h = h
unless_refused (Some e) s new a h = refl

freeze_answers : (o : Option Refusal) (s : State) → answer_in (frozen_by o s).answer ≡ (frozen_by o s).answer ∷ []
freeze_answers None s = refl
freeze_answers (Some e) s = refl

bill_answers : (r : Result Figures Refusal) → answer_in (told_bill r) ≡ told_bill r ∷ []
bill_answers (Ok f) = refl
bill_answers (Err e) = refl

call_answers : (s : State) (call : Call) → answer_in (perform s call).answer ≡ (perform s call).answer ∷ []
call_answers s (admit c) = unless_refused (admit_refusal s.book s.marks c) s _ _ refl
call_answers s (remove c) = unless_refused (remove_refusal s.marks c) s _ _ refl
call_answers s (hand_in p) = unless_refused (hand_in_refusal s.book s.marks p) s _ _ refl
call_answers s (post p u) = unless_refused (post_refusal s.book s.units s.marks p u) s _ _ refl
call_answers s (add_cost p r) = unless_refused (cost_refusal s.book s.costs s.marks p r) s _ _ refl
call_answers s (correct p at q) = unless_refused (correct_refusal s.book s.units s.marks p at q) s _ _ refl
call_answers s freeze = freeze_answers (freeze_refusal s.marks) s
call_answers s reopen = refl
call_answers s (take_in p) = refl
call_answers s (bill rule n p) = bill_answers (book_bill rule.meaning n s.book s.units s.costs p)

step_answers : (s : State) (call : Call) → offers s call ≡ true → answer_in (step s call).answer ≡ (step s call).answer ∷ []
step_answers s call h = subst (λ (b : Bool). answer_in (stepped b s (perform s call)).answer ≡ (stepped b s (perform s call)).answer ∷ []) (sym h) (call_answers s call)

-- one command, by whether the book offers it and what call it asks for
replied : Reply → List Answer
replied (answered a) = answer_in a
replied (no_pass n) = []

replied_first : (r : Reply) (rs : List Reply) → answers_in (r ∷ rs) ≡ replied r ++ answers_in rs
unfolding replied
replied_first (answered a) rs = refl
replied_first (no_pass n) rs = refl

module _ (j : Journal) (command : Command) where
  made_offered : (b : Bool) (o : Option Call) → OfferedAs j.state b o → Offered j.state (cond b (listed o) [])
  unfolding OfferedAs
  made_offered true None h = tt
  made_offered true (Some call) h = (h, tt)
  made_offered false o h = tt

  made_final : (b : Bool) (o : Option Call) → final j.state (cond b (listed o) []) ≡ (cond b (called j command o) (record { journal = j; reply = answered not_offered })).journal.state
  made_final true None = refl
  made_final true (Some call) = refl
  made_final false o = refl

  made_answers : (b : Bool) (o : Option Call) → OfferedAs j.state b o →
      answers j.state (cond b (listed o) []) ≡ replied (cond b (called j command o) (record { journal = j; reply = answered not_offered })).reply
  unfolding OfferedAs replied
  made_answers true None h = refl
  made_answers true (Some call) h = sym (step_answers j.state call h)
  made_answers false o h = refl

module _ (rules : RuleName → Rule) where
  pub calls_offered : (j : Journal) (commands : List Command) → Offered j.state (calls_of rules j commands)
  calls_offered j [] = tt
  calls_offered j (command ∷ commands) =
      let b = offers_to j.state.is_frozen command in
      let o = call_for rules j command in
      let next = (step_journal rules j command).journal in
      offered-++ j.state (made_by rules j command) (calls_of rules next commands) (made_offered j command b o (call_offered rules j command))
      (subst (λ (s : State). Offered s (calls_of rules next commands)) (sym (made_final j command b o)) (calls_offered next commands))

  pub calls_lead : (j : Journal) (commands : List Command) → final j.state (calls_of rules j commands) ≡ (after rules j commands).state
  calls_lead j [] = refl
  calls_lead j (command ∷ commands) =
      let next = (step_journal rules j command).journal in
      final-++ j.state (made_by rules j command) (calls_of rules next commands)
      ∙ ap (λ (s : State). final s (calls_of rules next commands)) (made_final j command (offers_to j.state.is_frozen command) (call_for rules j command))
      ∙ calls_lead next commands

  pub calls_answer : (j : Journal) (commands : List Command) → answers j.state (calls_of rules j commands) ≡ answers_in (replies rules j commands)
  calls_answer j [] = refl
  calls_answer j (command ∷ commands) =
      let b = offers_to j.state.is_frozen command in
      let o = call_for rules j command in
      let next = (step_journal rules j command).journal in
      let reply = (step_journal rules j command).reply in
      answers-++ j.state (made_by rules j command) (calls_of rules next commands)
      ∙ ap (λ (s : State). answers j.state (made_by rules j command) ++ answers s (calls_of rules next commands)) (made_final j command b o)
      ∙ ap (λ (l : List Answer). l ++ answers next.state (calls_of rules next commands)) (made_answers j command b o (call_offered rules j command))
      ∙ ap (λ (l : List Answer). replied reply ++ l) (calls_answer next commands)
      ∙ sym (replied_first reply (replies rules next commands))
