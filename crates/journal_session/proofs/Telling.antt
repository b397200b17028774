-- What a line is answered, from what the calls of a journal say.
use Rattle.std.proofs.Common.{◌≡◌, ℕ, zero, suc, ◌⊎◌, List, [], ◌∷◌, ◌++◌, take, Ok, Err, Result, MatchResult, IsErrAnd, sym, refl, ap, ◌∙◌, subst, inl, inr}
use lib.Seq.{take-nil}
use Rattle.std.specs.declared.alloc.AllocError.{AllocError}
use Rattle.std.proofs.lemmas.List.{append-nil}
use Rattle.sharing.specs.Rule.{Rule}
use Rattle.line_rows.specs.Writing.{most_line}
use Rattle.journal_line.specs.declared.calls.Command.{Command}
use Rattle.sharing.specs.declared.names.RuleName.{RuleName}
use Rattle.journal_rules.specs.Journal.{Journal as Kept, step_journal, after}
use Rattle.journal_book.specs.Replay.{Replays}
use Rattle.journal_book.specs.Texts.{reply_text, replay_text}
use Rattle.journal_session.specs.declared.faults.AnswerError.{AnswerError}
use Rattle.journal_session.specs.declared.faults.AnswerError.TheVariants.{OutOfMemory}
use Rattle.journal_session.specs.Session.{running, by_call, Answers}

-- a list of one command
module _ (rules : RuleName → Rule) (j : Kept) (command : Command) where
  left_by : (n : ℕ) (new : Kept) → new ≡ after rules j (take n (command ∷ [])) → (running new ≡ running j) ⊎ (running new ≡ running (step_journal rules j command).journal)
  left_by zero new h = inl (ap (λ (k : Kept). running k) h)
  left_by (suc n) new h = inr (ap (λ (k : Kept). running k) (h ∙ ap (λ (cs : List Command). after rules j (command ∷ cs)) (take-nil n)))

  told_by_is : (n : ℕ) (before behind : List ℕ) → behind ≡ before ++ replay_text rules j (take n (command ∷ [])) →
      (behind ≡ before) ⊎ ((text : List ℕ) × ((by_call rules (running j) command).outcome ≡ Ok text) × (behind ≡ before ++ text))
  told_by_is zero before behind h = inl (h ∙ append-nil before)
  told_by_is (suc n) before behind h =
      let said : List ℕ = reply_text most_line command (step_journal rules j command).reply in
      inr (said, refl, h ∙ ap (λ (cs : List Command). before ++ replay_text rules j (command ∷ cs)) (take-nil n) ∙ ap (λ (t : List ℕ). before ++ t) (append-nil said))

  pub replayed : (new : Kept) (before behind : List ℕ) (r : Result (Unit {0}) AllocError) (out : Result (Unit {0}) AnswerError) →
      Replays rules j (command ∷ []) new before behind r → MatchResult r (λ x. out ≡ Ok x) (λ _. IsErrAnd out (λ e. e ≡ OutOfMemory)) → Answers (by_call rules (running j) command) (running j) (running new) before behind out
  replayed new before behind (Ok _) out done says =
      subst (λ (o : Result (Unit {0}) AnswerError). Answers (by_call rules (running j) command) (running j) (running new) before behind o) (sym says)
      (ap (λ (k : Kept). running k) done.leaves, (refl, done.writes ∙ ap (λ (t : List ℕ). before ++ t) (append-nil (reply_text most_line command (step_journal rules j command).reply))))
  replayed new before behind (Err e) (Ok _) done says = absurd says
  replayed new before behind (Err e) (Err fault) done says =
      subst (λ (x : AnswerError). Answers (by_call rules (running j) command) (running j) (running new) before behind (Err x)) (sym says)
      (record { session_was = left_by done.made new done.leaves; text_was = told_by_is done.told before behind done.writes })
