-- The rows of a bill, put into a buffer.
use Rattle.std.proofs.Common.{◌≡◌, ℕ, ◌+◌, List, length, IfOk, Ok, Err, Result, sym, ap, ◌∙◌, subst}
use Rattle.tariff.specs.declared.refusal.Refusal.{Refusal}
use Rattle.tariff.specs.Refusals.{answer, unless}
use Rattle.bill_rules.specs.Bill.{Figures}
use Rattle.buffer.specs.Putting.{pasted, put_refusal}
use Rattle.line_rows.specs.Rows.{line_text, text_of, text_refusal, text_in}

-- what holds of the rows of an accepted bill
pub rows_have : (n : ℕ) (b : Result Figures Refusal) (f : Figures) (P : List ℕ → Type 0) → Ok f ≡ b → P (line_text n f) → IfOk (text_of n b) P
rows_have n b f P h p = subst (λ (x : Result Figures Refusal). IfOk (text_of n x) P) h p

pub none_have : (n : ℕ) (b : Result Figures Refusal) (e : Refusal) (P : List ℕ → Type 0) → Err e ≡ b → IfOk (text_of n b) P
none_have n b e P h = subst (λ (x : Result Figures Refusal). IfOk (text_of n x) P) h tt

-- what a call answers, and what it leaves in the buffer
abbrev pub Put : List ℕ → ℕ → Result (List ℕ) Refusal → Result ℕ Refusal → List ℕ → Type 0
Put out place t r after =
    (r ≡ answer (text_refusal (length out) place t) (place + length (text_in t)))
    × (after ≡ unless (text_refusal (length out) place t) out (pasted out place (text_in t)))

module _ (out : List ℕ) (place n : ℕ) (b : Result Figures Refusal) where
  pub put_refused : (e : Refusal) → Err e ≡ b → Put out place (text_of n b) (Err e) out
  put_refused e h =
      let t : text_of n b ≡ Err e = ap (text_of n) (sym h) in (
        sym (ap (λ (x : Result (List ℕ) Refusal). answer (text_refusal (length out) place x) (place + length (text_in x))) t),
        sym (ap (λ (x : Result (List ℕ) Refusal). unless (text_refusal (length out) place x) out (pasted out place (text_in x))) t),
      )

  pub put_rows : (f : Figures) (rows after : List ℕ) (r : Result ℕ Refusal) → Ok f ≡ b → rows ≡ line_text n f →
      r ≡ answer (put_refusal (length out) place rows) (place + length rows) → after ≡ unless (put_refusal (length out) place rows) out (pasted out place rows) → Put out place (text_of n b) r after
  put_rows f rows after r h e answers left =
      let t : Ok rows ≡ text_of n b = ap (λ (x : List ℕ). Ok x) e ∙ ap (text_of n) h in (
        answers ∙ ap (λ (x : Result (List ℕ) Refusal). answer (text_refusal (length out) place x) (place + length (text_in x))) t,
        left ∙ ap (λ (x : Result (List ℕ) Refusal). unless (text_refusal (length out) place x) out (pasted out place (text_in x))) t,
      )
