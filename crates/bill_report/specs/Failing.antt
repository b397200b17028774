-- How a bill fails.
--   error_words        the words of an error
--   line_of            the line for an error
--   UnlessOutOfMemory  what holds of a call's value or of its refusal, where memory does not run out
use Rattle.std.specs.Prelude.{ℕ, List, ◌++◌, Ok, Err, Result, codes}
use Rattle.tariff.specs.declared.refusal.Refusal.{Refusal}
use Rattle.tariff.specs.Refusals.{words as refusal_words}
use Rattle.bill_report.specs.declared.error.BillError.{BillError}
use Rattle.bill_report.specs.declared.error.BillError.TheVariants.{Refused, OutOfMemory}

abbrev pub error_words : BillError → List ℕ
error_words (Refused e) = codes "bill: " ++ refusal_words e
error_words OutOfMemory = codes "memory allocation failed"

abbrev pub line_of : BillError → List ℕ
line_of e = error_words e ++ codes "\n"

abbrev pub UnlessOutOfMemory : {A : Type 0} → Result A BillError → (Result A Refusal → Type 0) → Type 0
UnlessOutOfMemory (Ok a) P = P (Ok a)
UnlessOutOfMemory (Err (Refused e)) P = P (Err e)
UnlessOutOfMemory (Err OutOfMemory) P = Unit {0}
