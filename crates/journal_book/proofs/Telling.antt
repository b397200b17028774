-- The text of a reply, from what a call leaves in the buffer. Assumes nothing.
use Rattle.std.proofs.Common.{◌≡◌, ℕ, ◌+◌, cond, List, [], ◌∷◌, ◌++◌, length, take, drop, is_ok, Some, None, Ok, Err, Option, Result, MatchResult, refl, sym, ap, ◌∙◌, subst, inl, inr}
use Rattle.std.specs.declared.alloc.AllocError.{AllocError}
use Rattle.tariff.specs.declared.refusal.Refusal.{Refusal}
use Rattle.tariff.specs.Refusals.{unless}
use Rattle.sharing.specs.Rule.{Rule}
use Rattle.buffer.specs.Putting.{pasted, put_refusal}
use Rattle.book_rules.specs.Run.{accepted, gave, row, froze, stayed_open, reopened, billed, refused, not_offered}
use Rattle.journal_line.specs.declared.calls.Command.{Command}
use Rattle.journal_line.specs.declared.calls.Command.TheVariants.{Admit, Remove, HandIn, TakeIn, Post, Correct, Cost, Freeze, Reopen, Bill}
use Rattle.sharing.specs.declared.names.RuleName.{RuleName}
use Rattle.journal_rules.specs.Journal.{Journal, Reply as Said, answered, no_pass, step_journal}
use Rattle.journal_book.specs.declared.replies.Reply.{Reply}
use Rattle.journal_book.specs.Answers.{Answers, Leaves, Written}
use Rattle.journal_book.specs.Replay.{Tells}
use Rattle.journal_book.specs.Replies.{done_by, bill_text, rows_reply, reply_for, out_after}
use Rattle.journal_book.specs.Texts.{reply_words, reply_text}

-- the buffer matters only to the rows of a bill, and these stand at its start
done_words : (command : Command) (out rows : List ℕ) → reply_words out (done_by command) ≡ reply_words rows (done_by command)
done_words (Admit c) out rows = refl
done_words (Remove c) out rows = refl
done_words (HandIn n) out rows = refl
done_words (TakeIn n) out rows = refl
done_words (Post n u) out rows = refl
done_words (Correct n at q) out rows = refl
done_words (Cost n x) out rows = refl
done_words Freeze out rows = refl
done_words Reopen out rows = refl
done_words (Bill line rule) out rows = refl

front : (rows rest : List ℕ) → take (length rows) (rows ++ rest) ≡ take (length rows) rows
front [] rest = refl
front (x ∷ rows) rest = ap (λ (l : List ℕ). x ∷ l) (front rows rest)

rows_words : (o : Option Refusal) (out rows : List ℕ) → reply_words (unless o out (pasted out 0 rows)) (rows_reply o (length rows)) ≡ reply_words rows (rows_reply o (length rows))
rows_words None out rows = front rows (drop (0 + length rows) out)
rows_words (Some e) out rows = refl

words : (out : List ℕ) (command : Command) (said : Said) → reply_words (out_after out (bill_text command said)) (reply_for (length out) command said) ≡ reply_text (length out) command said
words out command (answered accepted) = done_words command _ _
words out command (answered (gave p)) = refl
words out command (answered (row n)) = refl
words out command (answered (froze b)) = refl
words out command (answered (stayed_open b e)) = refl
words out command (answered (reopened b)) = refl
words out command (answered (billed f)) = rows_words (put_refusal (length out) 0 (bill_text command (answered (billed f)))) out (bill_text command (answered (billed f)))
words out command (answered (refused e)) = refl
words out command (answered not_offered) = refl
words out command (no_pass n) = refl

module _ (rules : RuleName → Rule) (command : Command) (old new : Journal) (out out' : List ℕ) where
  text_of : (reply : Reply) → Answers rules (length out) command old new reply → out' ≡ out_after out (bill_text command (step_journal rules old command).reply) → reply_words out' reply ≡ reply_text (length out) command (step_journal rules old command).reply
  text_of reply answers written =
      ap (λ (l : List ℕ). reply_words l reply) written ∙ ap (λ (r : Reply). reply_words (out_after out (bill_text command (step_journal rules old command).reply)) r) answers.replies ∙ words out command (step_journal rules old command).reply

  told : (reply : Reply) → Answers rules (length out) command old new reply → out' ≡ out_after out (bill_text command (step_journal rules old command).reply) → (before text : List ℕ) (r : Result (Unit {0}) AllocError) →
      text ≡ cond (is_ok r) (before ++ reply_words out' reply) before → Tells rules (length out) command old new before text r
  told reply answers written before text (Ok _) h = (answers.leaves, h ∙ ap (λ (l : List ℕ). before ++ l) (text_of reply answers written))
  told reply answers written before text (Err e) h = (inr answers.leaves, h)

  pub tells : (made : Result Reply AllocError) → Leaves rules (length out) command old new made → Written rules command old out out' made → (before text : List ℕ) (r : Result (Unit {0}) AllocError) →
      MatchResult made (λ reply. text ≡ cond (is_ok r) (before ++ reply_words out' reply) before) (λ e. (r ≡ Err e) × (text ≡ before)) → Tells rules (length out) command old new before text r
  tells (Ok reply) leaves writes before text r h = told reply leaves writes before text r h
  tells (Err e) leaves writes before text r h =
      subst (λ (x : Result (Unit {0}) AllocError). Tells rules (length out) command old new before text x) (sym h.0) (inl leaves, h.1)
