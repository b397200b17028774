-- A replay, command by command. Assumes nothing.
use Rattle.std.proofs.Common.{◌≡◌, ℕ, ◌+◌, List, [], ◌∷◌, ◌++◌, take, true, false, is_err, Ok, Err, Result, sym, refl, ap, ◌∙◌, subst, ⊎_elim, append_assoc, append-nil, arith}
use Rattle.std.specs.declared.alloc.AllocError.{AllocError}
use Rattle.sharing.specs.Rule.{Meaning, Lawful, Rule}
use Rattle.line_rows.specs.Writing.{most_line}
use Rattle.journal_line.specs.declared.calls.Command.{Command}
use Rattle.sharing.specs.declared.names.RuleName.{RuleName}
use Rattle.journal_rules.specs.Journal.{Journal, step_journal, after}
use Rattle.journal_book.specs.Replay.{Tells, Replayed, Stopped, Replays}
use Rattle.journal_book.specs.Shown.{rules_for}
use Rattle.journal_book.specs.Texts.{reply_text, replay_text}

-- what holds of rules that mean the same
for_rules : (Q : (RuleName → Rule) → Type 0) {d e r s : Meaning} → d ≡ e → r ≡ s → ((ld : Lawful d) (lr : Lawful r) → Q (rules_for d r ld lr)) → (le : Lawful e) (ls : Lawful s) → Q (rules_for e s le ls)
for_rules Q {e = e} {r = r} p q h =
    subst (λ (y : Meaning). (le : Lawful e) (ls : Lawful y) → Q (rules_for e y le ls)) q (subst (λ (x : Meaning). (ld : Lawful x) (lr : Lawful r) → Q (rules_for x r ld lr)) p h)

-- one turn, at the rules and the room of the start
pub turn : {d e r s : Meaning} (p : d ≡ e) (q : r ≡ s) (room : ℕ) → room ≡ most_line → (c : Command) (j j' : Journal) (t t' : List ℕ) (x : Result (Unit {0}) AllocError) →
    ((ld : Lawful d) (lr : Lawful r) → Tells (rules_for d r ld lr) room c j j' t t' x) → (le : Lawful e) (ls : Lawful s) → Tells (rules_for e s le ls) most_line c j j' t t' x
turn {d = d} {r = r} p q room full c j j' t t' x h =
    for_rules (λ (rules : RuleName → Rule). Tells rules most_line c j j' t t' x) p q (λ ld lr. subst (λ (n : ℕ). Tells (rules_for d r ld lr) n c j j' t t' x) full (h ld lr))

module _ (rules : RuleName → Rule) where
  after_push : (j : Journal) (cs : List Command) (c : Command) → after rules j (cs ++ c ∷ []) ≡ (step_journal rules (after rules j cs) c).journal
  after_push j [] c = refl
  after_push j (x ∷ cs) c = after_push (step_journal rules j x).journal cs c

  text_push : (j : Journal) (cs : List Command) (c : Command) → replay_text rules j (cs ++ c ∷ []) ≡ replay_text rules j cs ++ reply_text most_line c (step_journal rules (after rules j cs) c).reply
  text_push j [] c = append-nil _
  text_push j (x ∷ cs) c =
      let next = (step_journal rules j x).journal in
      ap (λ (l : List ℕ). reply_text most_line x (step_journal rules j x).reply ++ l) (text_push next cs c)
      ∙ sym (append_assoc (reply_text most_line x (step_journal rules j x).reply) (replay_text rules next cs) _)

  module _ (old : Journal) (commands : List Command) (i : ℕ) (c : Command) (more : take (i + 1) commands ≡ take i commands ++ c ∷ []) (j j' : Journal) (before t t' : List ℕ) (done : Replayed rules old (take i commands) j before t) where
    stepped : j' ≡ (step_journal rules j c).journal → j' ≡ after rules old (take (i + 1) commands)
    stepped h = h ∙ ap (λ (x : Journal). (step_journal rules x c).journal) done.leaves ∙ sym (after_push old (take i commands) c) ∙ sym (ap (after rules old) more)

    replayed_more : Tells rules most_line c j j' t t' (Ok tt) → Replayed rules old (take (i + 1) commands) j' before t'
    replayed_more h = record {
      leaves = stepped h.0;
      writes =
          h.1
          ∙ ap (λ (l : List ℕ). l ++ reply_text most_line c (step_journal rules j c).reply) done.writes
          ∙ ap (λ (x : Journal). (before ++ replay_text rules old (take i commands)) ++ reply_text most_line c (step_journal rules x c).reply) done.leaves
          ∙ append_assoc before (replay_text rules old (take i commands)) _
          ∙ ap (λ (l : List ℕ). before ++ l) (sym (text_push old (take i commands) c) ∙ sym (ap (replay_text rules old) more));
    }

    replay_stops : (e : AllocError) → Tells rules most_line c j j' t t' (Err e) → Stopped rules old commands j' before t'
    replay_stops e h =
        ⊎_elim
        (λ same. record { told = i; made = i; near = (omega arith, omega arith); leaves = same ∙ done.leaves; writes = h.1 ∙ done.writes })
        (λ next. record { told = i; made = i + 1; near = (omega arith, omega arith); leaves = stepped next; writes = h.1 ∙ done.writes })
        h.0

    -- the same by what the text's call told
    pub stops : (r : Result (Unit {0}) AllocError) → true ≡ is_err r → Tells rules most_line c j j' t t' r → Replays rules old commands j' before t' r
    stops (Ok _) e h = cc
    stops (Err e) is h = replay_stops e h

    pub goes_on : (r : Result (Unit {0}) AllocError) → false ≡ is_err r → Tells rules most_line c j j' t t' r → Replayed rules old (take (i + 1) commands) j' before t'
    goes_on (Ok _) is h = replayed_more h
    goes_on (Err e) is h = cc
