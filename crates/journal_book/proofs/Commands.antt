-- From what the calls of a book say to what a journal answers. Assumes nothing.
use Rattle.std.proofs.Common.{◌≡◌, ℕ, Bool, true, false, cond, List, [], length, Some, None, Ok, Err, Option, Result, MatchResult, sym, refl, ap, ◌∙◌, subst}
use Rattle.std.specs.declared.alloc.AllocError.{AllocError}
use Rattle.tariff.specs.declared.refusal.Refusal.{Refusal}
use Rattle.tariff.specs.Refusals.{unless}
use Rattle.sharing.specs.Rule.{Rule}
use Rattle.buffer.specs.Putting.{put_refusal}
use Rattle.book_rules.specs.Run.{Call, not_offered, Outcome, step}
use Rattle.book.specs.Told.{told, told_row}
use Rattle.journal_line.specs.declared.calls.Command.{Command}
use Rattle.journal_line.specs.declared.calls.Command.TheVariants.{Admit, Remove, HandIn, TakeIn, Post, Correct, Cost, Freeze, Reopen, Bill}
use Rattle.sharing.specs.declared.names.RuleName.{RuleName}
use Rattle.journal_rules.specs.Journal.{Journal, Reply as Said, Made, answered, offers_to, call_for, called, after_call, step_journal}
use Rattle.journal_book.specs.declared.replies.Reply.{Reply}
use Rattle.journal_book.specs.declared.replies.Reply.TheVariants.{NotOffered, Refused, Row}
use Rattle.journal_book.specs.Answers.{Answers, Leaves}
use Rattle.journal_book.specs.Replies.{done_by, reply_for, bill_text, out_after}

pub answers_as : {rules : RuleName → Rule} {room : ℕ} {command k : Command} {old new : Journal} {reply : Reply} → command ≡ k → Answers rules room k old new reply → Answers rules room command old new reply
answers_as {rules} {room} {old = old} {new = new} {reply = reply} e h = subst (λ (x : Command). Answers rules room x old new reply) (sym e) h

pub leaves_as : (rules : RuleName → Rule) (room : ℕ) {command k : Command} (old new : Journal) (r : Result Reply AllocError) → command ≡ k → Leaves rules room k old new r → Leaves rules room command old new r
leaves_as rules room old new r e h = subst (λ (x : Command). Leaves rules room x old new r) (sym e) h

-- one command, from what the book's call says
module _ (rules : RuleName → Rule) (room : ℕ) (command : Command) (old : Journal) where
  unoffered : Made
  unoffered = record { journal = old; reply = answered not_offered }

  pub called_for : (call : Call) (o : Outcome) (new : Journal) (reply : Reply) → offers_to old.state.is_frozen command ≡ true → call_for rules old command ≡ Some call → step old.state call ≡ o →
      new ≡ (after_call command old.held o).journal → reply ≡ reply_for room command (answered o.answer) → Answers rules room command old new reply
  unfolding unoffered
  called_for call o new reply offered asks steps leaves replies =
      let made : step_journal rules old command ≡ after_call command old.held o =
      ap (λ (b : Bool). cond b (called old command (call_for rules old command)) unoffered) offered ∙ ap (called old command) asks ∙ ap (after_call command old.held) steps in
      record { leaves = leaves ∙ sym (ap (λ (m : Made). m.journal) made); replies = replies ∙ sym (ap (λ (m : Made). reply_for room command m.reply) made) }

  pub not_offered_is : offers_to old.state.is_frozen command ≡ false → Answers rules room command old old NotOffered
  unfolding unoffered
  not_offered_is h =
      let made : step_journal rules old command ≡ unoffered = ap (λ (b : Bool). cond b (called old command (call_for rules old command)) unoffered) h in
      record { leaves = sym (ap (λ (m : Made). m.journal) made); replies = sym (ap (λ (m : Made). reply_for room command m.reply) made) }

-- the reply to an outcome of the book's call
pub row_reply : (room : ℕ) (command : Command) (r : Result ℕ Refusal) (reply : Reply) → MatchResult r (λ n. reply ≡ Row n) (λ e. reply ≡ Refused e) → reply ≡ reply_for room command (answered (told_row r))
row_reply room command (Ok n) reply h = h
row_reply room command (Err e) reply h = h

pub done_reply : (room : ℕ) (command : Command) (r : Result (Unit {0}) Refusal) (reply : Reply) → MatchResult r (λ _. reply ≡ done_by command) (λ e. reply ≡ Refused e) → reply ≡ reply_for room command (answered (told r))
done_reply room command (Ok _) reply h = h
done_reply room command (Err e) reply h = h

pub only_open : (command : Command) → (command ≡ Reopen → ⊥) → ((n : ℕ) → command ≡ TakeIn n → ⊥) → ((line : ℕ) (rule : RuleName) → command ≡ Bill line rule → ⊥) →
    (offers_to true command ≡ false) × ((said : Said) → bill_text command said ≡ [])
only_open (Admit c) r t b = (refl, λ said. refl)
only_open (Remove c) r t b = (refl, λ said. refl)
only_open (HandIn n) r t b = (refl, λ said. refl)
only_open (TakeIn n) r t b = absurd (t n refl)
only_open (Post n u) r t b = (refl, λ said. refl)
only_open (Correct n at q) r t b = (refl, λ said. refl)
only_open (Cost n x) r t b = (refl, λ said. refl)
only_open Freeze r t b = (refl, λ said. refl)
only_open Reopen r t b = absurd (r refl)
only_open (Bill line rule) r t b = absurd (b line rule refl)

-- a buffer into which nothing is written
kept_unless : (o : Option Refusal) (out : List ℕ) → out ≡ unless o out out
kept_unless None out = refl
kept_unless (Some e) out = refl

pub out_kept : (out rows : List ℕ) → rows ≡ [] → out ≡ out_after out rows
out_kept out rows e = kept_unless (put_refusal (length out) 0 []) out ∙ sym (ap (out_after out) e)

pub no_rows_out : (out : List ℕ) (command k : Command) (said : Said) → ((s : Said) → bill_text k s ≡ []) → command ≡ k → out ≡ out_after out (bill_text command said)
no_rows_out out command k said none e = out_kept out (bill_text command said) (ap (λ (x : Command). bill_text x said) e ∙ none said)
