-- What an error of the code says.
--   error_words  the words for an error, as a user reads them: the program's name, and what is wrong
use Rattle.std.specs.Prelude.{ℕ, List, ◌++◌, codes}
use Rattle.tariff.specs.Refusals.{words as refusal_words}
use Rattle.share_report.specs.declared.error.ShareError.{ShareError}
use Rattle.share_report.specs.declared.error.ShareError.TheVariants.{Misread, NothingToShare, Refused, OutOfMemory}
use Rattle.share_report.specs.Numbers.{shown_bad}
use Rattle.share_report.specs.Report.{bad_word}

abbrev pub error_words : ShareError → List ℕ
error_words (Misread m) = codes "share: " ++ bad_word (shown_bad m)
error_words NothingToShare = codes "share: word 1 is missing: the pool in cents, and after it the units of each customer"
error_words (Refused e) = codes "share: " ++ refusal_words e
error_words OutOfMemory = codes "memory allocation failed"
