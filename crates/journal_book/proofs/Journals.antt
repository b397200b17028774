-- Journals with equal parts, and a journal as opening leaves it. Assumes nothing.
use Rattle.std.proofs.Common.{◌≡◌, ℕ, List, [], ◌∷◌, replicate, None, Ok, Err, Option, Result, sym, refl, ap, ◌∙◌, subst}
use Rattle.std.specs.declared.alloc.AllocError.{AllocError}
use Rattle.tariff.specs.declared.refusal.Refusal.{Refusal}
use Rattle.tariff.specs.declared.rows.CostRow.{CostRow}
use Rattle.tariff.specs.declared.rows.UnitRow.{UnitRow}
use Rattle.tariff.specs.Limits.{contributors}
use Rattle.tariff.specs.Refusals.{answer, unless}
use Rattle.tariff.proofs.Refused.{ok_tells, err_tells}
use Rattle.sharing.specs.Rule.{Rule}
use Rattle.lines.specs.Rows.{no_units, no_cost}
use Rattle.book_rules.specs.Machine.{Book, Pass, open_refusal, new_book}
use Rattle.book_rules.specs.Run.{State, opened}
use Rattle.book.specs.declared.states.Pass.{Pass as Token}
use Rattle.journal_line.specs.declared.calls.Command.{Command}
use Rattle.journal_line.specs.declared.calls.Command.TheVariants.{Admit, Remove, HandIn, TakeIn, Post, Correct, Cost, Freeze, Reopen, Bill}
use Rattle.journal_line.specs.declared.calls.Opening.{Opening}
use Rattle.sharing.specs.declared.names.RuleName.{RuleName}
use Rattle.journal_rules.specs.Journal.{Journal, step_journal}
use Rattle.journal_rules.specs.Numbered.{Numbered}
use Rattle.journal_rules.proofs.Numbers.{after_numbered}
use Rattle.journal_book.specs.declared.replies.Reply.{Reply}
use Rattle.journal_book.specs.Answers.{Leaves, Written}
use Rattle.journal_book.specs.Replies.{bill_text}
use Rattle.journal_book.specs.Stages.{shown_passes}
use Rattle.journal_book.specs.Shown.{opening_journal}
use Rattle.journal_book.proofs.Commands.{out_kept}

module _ (rules : RuleName → Rule) (command : Command) (old old' : Journal) (r : Result Reply AllocError) (e : old ≡ old') where
  pub leaves_from : (room : ℕ) (new : Journal) → Leaves rules room command old new r → Leaves rules room command old' new r
  leaves_from room new h = subst (λ (x : Journal). Leaves rules room command x new r) e h

  pub written_from : (before after : List ℕ) → Written rules command old before after r → Written rules command old' before after r
  written_from before after h = subst (λ (x : Journal). Written rules command x before after r) e h

-- an open book writes no rows
module _ (rules : RuleName → Rule) (b : Book) (us : List UnitRow) (cs : List CostRow) (ms : List ℕ) (held : List (Option Pass)) where
  open_rows : (command : Command) → bill_text command (step_journal rules (record { state = opened b us cs ms; held = held }) command).reply ≡ []
  open_rows (Admit c) = refl
  open_rows (Remove c) = refl
  open_rows (HandIn n) = refl
  open_rows (TakeIn n) = refl
  open_rows (Post n u) = refl
  open_rows (Correct n at q) = refl
  open_rows (Cost n x) = refl
  open_rows Freeze = refl
  open_rows Reopen = refl
  open_rows (Bill line rule) = refl

  pub open_written : (command : Command) (out : List ℕ) (r : Result Reply AllocError) → Written rules command (record { state = opened b us cs ms; held = held }) out out r
  open_written command out (Ok reply) = out_kept out _ (open_rows command)
  open_written command out (Err e) = refl

journal_of : State → List (Option Pass) → Journal
journal_of s held = record { state = s; held = held }

-- opening, from marks that are all 0
module _ (o : Opening) (ms : List ℕ) (zeros : ms ≡ replicate contributors 0) where
  pub opens : (b : Book) (us : List UnitRow) (cs : List CostRow) (ms' marks : List ℕ) (ps : List (Option Token)) →
      Ok b ≡ answer (open_refusal o.sizes ms) (new_book o.sizes o.number) → ms' ≡ unless (open_refusal o.sizes ms) ms (replicate contributors 0) →
      us ≡ replicate o.unit_rows no_units → cs ≡ replicate o.cost_rows no_cost → marks ≡ ms' → ps ≡ [] →
      ◌≡◌ {A = Result Journal Refusal} (Ok (record { state = opened b us cs marks; held = shown_passes ps })) (answer (open_refusal o.sizes (replicate contributors 0)) (opening_journal o))
  unfolding journal_of
  opens b us cs ms' marks ps ok clear u c m p =
      let none = ok_tells (open_refusal o.sizes ms) b (new_book o.sizes o.number) ok in
      let unrefused : open_refusal o.sizes (replicate contributors 0) ≡ None = ap (λ (l : List ℕ). open_refusal o.sizes l) (sym zeros) ∙ none.0 in
      let cleared : marks ≡ replicate contributors 0 = m ∙ clear ∙ ap (λ (x : Option Refusal). unless x ms (replicate contributors 0)) none.0 in
      ap (λ (x : Book). Ok (journal_of (opened x us cs marks) (shown_passes ps))) none.1
      ∙ ap (λ (x : List UnitRow). Ok (journal_of (opened (new_book o.sizes o.number) x cs marks) (shown_passes ps))) u
      ∙ ap (λ (x : List CostRow). Ok (journal_of (opened (new_book o.sizes o.number) (replicate o.unit_rows no_units) x marks) (shown_passes ps))) c
      ∙ ap (λ (x : List ℕ). Ok (journal_of (opened (new_book o.sizes o.number) (replicate o.unit_rows no_units) (replicate o.cost_rows no_cost) x) (shown_passes ps))) cleared
      ∙ ap (λ (x : List (Option Token)). Ok (journal_of (opening_journal o).state (shown_passes x))) p
      ∙ sym (ap (λ (x : Option Refusal). answer x (opening_journal o)) unrefused)

  pub not_opened : (e : Refusal) → Err e ≡ answer (open_refusal o.sizes ms) (new_book o.sizes o.number) → Err e ≡ answer (open_refusal o.sizes (replicate contributors 0)) (opening_journal o)
  not_opened e h =
      sym (ap (λ (x : Option Refusal). answer x (opening_journal o)) (ap (λ (l : List ℕ). open_refusal o.sizes l) (sym zeros) ∙ err_tells (open_refusal o.sizes ms) e (new_book o.sizes o.number) h))

-- passes by their numbers
pub leaves_numbered : (rules : RuleName → Rule) (room : ℕ) (command : Command) (old new : Journal) (r : Result Reply AllocError) → Leaves rules room command old new r → Numbered old → Numbered new
leaves_numbered rules room command old new (Ok reply) h numbered = subst Numbered (sym h.leaves) (after_numbered rules old (command ∷ []) numbered)
leaves_numbered rules room command old new (Err e) h numbered = subst Numbered (sym h) numbered
