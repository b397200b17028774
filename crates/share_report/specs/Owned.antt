-- What an answer that borrows nothing means: an owned error keeps the start of a bad word, which is all that is shown.
-- Nothing is said of an answer for which there was no memory.
--   shown_owned   a bad word of the code, by what it holds: the start of the word
--   owned_words   the words for an owned error, as a user reads them: the program's name, and what is wrong
--   owned_line    the line for an owned error
--   OwnedReads    the numbers of a text were read, or its first bad word was, as far as that is shown
--   OwnedDivides  a pool was divided by a rule, or the rule's refusal was given
--   OwnedAnswers  the table was given where the text is accepted, and else an owned error whose line is that of the answer
--   KeepsWord     an owned bad word is a bad word cut short, with nothing behind its bytes
--   Keeps         an owned error says why as an error does
use Rattle.std.specs.Prelude.{◌≡◌, ℕ, ◌-◌, Bool, true, false, List, ◌++◌, take, drop, replicate, Ok, Err, codes, vec_items, string_bytes, Result, Vec, String, ⊤}
use Rattle.tariff.specs.declared.refusal.Refusal.{Refusal}
use Rattle.tariff.specs.Refusals.{words as refusal_words}
use Rattle.sharing.specs.declared.Division.{Division}
use Rattle.share_report.specs.declared.error.Misread.{Misread as Misreading}
use Rattle.share_report.specs.declared.error.ShareError.{ShareError}
use Rattle.share_report.specs.declared.error.ShareError.TheVariants.{Misread as BorrowedMisread, NothingToShare as BorrowedNothing, Refused as BorrowedRefused, OutOfMemory as BorrowedOutOfMemory}
use Rattle.share_report.specs.declared.owned.OwnedMisread.{OwnedMisread}
use Rattle.share_report.specs.declared.owned.OwnedShareError.{OwnedShareError}
use Rattle.share_report.specs.declared.owned.OwnedShareError.TheVariants.{Misread, NothingToShare, Refused, OutOfMemory}
use Rattle.share_report.specs.declared.table.Shares.{Shares}
use Rattle.share_report.specs.Numbers.{BadWord, shown_bad, cut_short}
use Rattle.share_report.specs.Report.{bad_word}

abbrev pub shown_owned : OwnedMisread → BadWord
shown_owned m = record { place = m.place; word = take m.word.length m.word.bytes; fault = m.fault }

abbrev pub owned_words : OwnedShareError → List ℕ
owned_words (Misread m) = codes "share: " ++ bad_word (shown_owned m)
owned_words NothingToShare = codes "share: word 1 is missing: the pool in cents, and after it the units of each customer"
owned_words (Refused e) = codes "share: " ++ refusal_words e
owned_words OutOfMemory = codes "memory allocation failed"

-- the line for an error: its words and a line end
abbrev pub owned_line : OwnedShareError → List ℕ
owned_line e = owned_words e ++ codes "\n"

abbrev pub OwnedReads : {Z : Type 0} → Result (Vec ℕ Z) OwnedShareError → Result (List ℕ) BadWord → Type 0
OwnedReads (Ok v) means = Ok (vec_items v) ≡ means
OwnedReads (Err (Misread m)) means = Err (shown_owned m) ≡ cut_short means
OwnedReads (Err NothingToShare) means = ⊥
OwnedReads (Err (Refused e)) means = ⊥
OwnedReads (Err OutOfMemory) means = ⊤

abbrev pub OwnedDivides : Result Shares OwnedShareError → Result (List ℕ × Division) Refusal → Type 0
OwnedDivides (Ok s) means = Ok (vec_items s.column, s.division) ≡ means
OwnedDivides (Err (Misread m)) means = ⊥
OwnedDivides (Err NothingToShare) means = ⊥
OwnedDivides (Err (Refused e)) means = Err e ≡ means
OwnedDivides (Err OutOfMemory) means = ⊤

abbrev pub OwnedAnswers : {Z : Type 0} → Result (String Z) OwnedShareError → Bool × List ℕ → Type 0
OwnedAnswers (Ok table) means = (true, string_bytes table) ≡ means
OwnedAnswers (Err (Misread m)) means = (false, owned_line (Misread m)) ≡ means
OwnedAnswers (Err NothingToShare) means = (false, owned_line NothingToShare) ≡ means
OwnedAnswers (Err (Refused e)) means = (false, owned_line (Refused e)) ≡ means
OwnedAnswers (Err OutOfMemory) means = ⊤

abbrev pub KeepsWord : Misreading → OwnedMisread → Type 0
KeepsWord m o = (Err (shown_owned o) ≡ cut_short (Err (shown_bad m))) × (drop o.word.length o.word.bytes ≡ replicate (40 - o.word.length) 0)

abbrev pub Keeps : ShareError → OwnedShareError → Type 0
Keeps (BorrowedMisread m) e = (o : OwnedMisread) × (e ≡ Misread o) × KeepsWord m o
Keeps BorrowedNothing e = e ≡ NothingToShare
Keeps (BorrowedRefused refusal) e = e ≡ Refused refusal
Keeps BorrowedOutOfMemory e = e ≡ OutOfMemory
