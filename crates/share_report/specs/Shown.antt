-- What the code answers, by what it means. Nothing is said of an answer for which there was no memory.
--   Reads       the numbers of a text were read, or its first bad word was
--   Divides     a pool was divided by a rule, or the rule's refusal was given
--   error_line  the line for an error
--   Answers     the table was given where the text is accepted, and else an error whose line is that of the answer
use Rattle.std.specs.Prelude.{◌≡◌, ℕ, Bool, true, false, List, ◌++◌, Ok, Err, codes, vec_items, string_bytes, Result, Vec, String, ⊤}
use Rattle.tariff.specs.declared.refusal.Refusal.{Refusal}
use Rattle.sharing.specs.declared.Division.{Division}
use Rattle.share_report.specs.declared.error.ShareError.{ShareError}
use Rattle.share_report.specs.declared.error.ShareError.TheVariants.{Misread, NothingToShare, Refused, OutOfMemory}
use Rattle.share_report.specs.declared.table.Shares.{Shares}
use Rattle.share_report.specs.Numbers.{BadWord, shown_bad}
use Rattle.share_report.specs.Errors.{error_words}

abbrev pub Reads : {Z : Type 0} → Result (Vec ℕ Z) ShareError → Result (List ℕ) BadWord → Type 0
Reads (Ok v) means = Ok (vec_items v) ≡ means
Reads (Err (Misread m)) means = Err (shown_bad m) ≡ means
Reads (Err NothingToShare) means = ⊥
Reads (Err (Refused e)) means = ⊥
Reads (Err OutOfMemory) means = ⊤

abbrev pub Divides : Result Shares ShareError → Result (List ℕ × Division) Refusal → Type 0
Divides (Ok s) means = Ok (vec_items s.column, s.division) ≡ means
Divides (Err (Misread m)) means = ⊥
Divides (Err NothingToShare) means = ⊥
Divides (Err (Refused e)) means = Err e ≡ means
Divides (Err OutOfMemory) means = ⊤

-- the line for an error: its words and a line end
abbrev pub error_line : ShareError → List ℕ
error_line e = error_words e ++ codes "\n"

abbrev pub Answers : {Z : Type 0} → Result (String Z) ShareError → Bool × List ℕ → Type 0
Answers (Ok table) means = (true, string_bytes table) ≡ means
Answers (Err (Misread m)) means = (false, error_line (Misread m)) ≡ means
Answers (Err NothingToShare) means = (false, error_line NothingToShare) ≡ means
Answers (Err (Refused e)) means = (false, error_line (Refused e)) ≡ means
Answers (Err OutOfMemory) means = ⊤
