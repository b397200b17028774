-- Making a unit file of a text.
--   longer, lines_in           a byte before lines, and the lines of a text; the last may lack its line end
--   refused_or, added_by       the bytes that a line adds to a file, or the reason why it adds none
--   go_on                      the next line, unless this one is at fault
--   ended                      the file as its lines end; a missing header is told at line 1
--   compose_from               the file of lines behind what is written already, the next line's number given
--   composed                   the file of a text, or the first fault
--   Files                      a call answers what was made, the file by its bytes, if memory does not run out
--   Inverse                    of a file's bytes: if it is accepted, what is composed of its listing is the file
--   Restored                   of a text and what was made of it: if the text is the listing of an accepted
--                              file, then that file is the answer, if memory does not run out
--   reason_words, fault_words  a reason and a fault as a user reads them
use Rattle.std.specs.Prelude.{◌≡◌, ℕ, ◌+◌, ◌<◌, cond, List, [], ◌∷◌, ◌++◌, length, Some, None, Ok, Err, vec_items, codes, decimal, Option, Result, Vec, ◌==◌}
use Rattle.std.specs.List.{AllByRecursion}
use Rattle.std.specs.declared.alloc.Global.{Global}
use Rattle.tariff.specs.Refusals.{words}
use Rattle.tariff.specs.Limits.{most_file_bytes}
use Rattle.tariff.specs.declared.refusal.Refusal.{Refusal}
use Rattle.unit_file.specs.Reading.{records_of}
use Rattle.unit_file.specs.Records.{Item, bytes_of}
use Rattle.unit_file.specs.Writing.{put_refusal, finish_refusal}
use Rattle.unit_text.specs.declared.composing.Fault.{Fault}
use Rattle.unit_text.specs.declared.composing.ComposeError.{ComposeError}
use Rattle.unit_text.specs.declared.composing.ComposeError.TheVariants.{Fault as AtFault, OutOfMemory}
use Rattle.unit_text.specs.declared.composing.Reason.{Reason}
use Rattle.unit_text.specs.declared.composing.Reason.TheVariants.{NotARecord, Refused}
use Rattle.unit_text.specs.Lines.{listing}
use Rattle.unit_line.specs.Parsing.{item_in}

abbrev pub longer : ℕ → List (List ℕ) → List (List ℕ)
longer b [] = (b ∷ []) ∷ []
longer b (line ∷ lines) = (b ∷ line) ∷ lines

abbrev pub lines_in : List ℕ → List (List ℕ)
lines_in [] = []
lines_in (b ∷ bs) = cond (b == 10) ([] ∷ lines_in bs) (longer b (lines_in bs))

abbrev pub refused_or : Option Refusal → List ℕ → Result (List ℕ) Reason
refused_or None bytes = Ok bytes
refused_or (Some e) bytes = Err (Refused e)

abbrev pub added_by : List ℕ → Option Item → Result (List ℕ) Reason
added_by file None = Err NotARecord
added_by file (Some item) = refused_or (put_refusal (length file) most_file_bytes item) (bytes_of item)

abbrev pub go_on : ℕ → Result (List ℕ) Reason → (List ℕ → Result (List ℕ) Fault) → Result (List ℕ) Fault
go_on line (Err reason) more = Err (record { line = line; reason = reason })
go_on line (Ok bytes) more = more bytes

abbrev pub ended : Option Refusal → List ℕ → Result (List ℕ) Fault
ended None file = Ok file
ended (Some e) file = Err (record { line = 1; reason = Refused e })

abbrev pub compose_from : ℕ → List ℕ → List (List ℕ) → Result (List ℕ) Fault
compose_from line file [] = ended (finish_refusal (length file)) file
compose_from line file (text ∷ texts) = go_on line (added_by file (item_in text)) (λ bytes. compose_from (line + 1) (file ++ bytes) texts)

abbrev pub composed : List ℕ → Result (List ℕ) Fault
composed text = compose_from 1 (1 ∷ []) (lines_in text)

abbrev pub Files : Result (Vec ℕ Global) ComposeError → Result (List ℕ) Fault → Type 0
Files (Ok file) made = Ok (vec_items file) ≡ made
Files (Err (AtFault fault)) made = Err fault ≡ made
Files (Err (OutOfMemory error)) made = Unit {0}

abbrev pub Inverse : List ℕ → Type 0
Inverse bytes = (items : List Item) → records_of bytes ≡ Ok items → composed (listing bytes) ≡ Ok bytes

abbrev pub Restored : List ℕ → Result (Vec ℕ Global) ComposeError → Type 0
Restored text answer = (bytes : List ℕ) (items : List Item) → AllByRecursion (λ b. b < 256) bytes → records_of bytes ≡ Ok items → text ≡ listing bytes → Files answer (Ok bytes)

abbrev pub reason_words : Reason → List ℕ
reason_words NotARecord = codes "not the line of a record, or a number is too large"
reason_words (Refused e) = words e

abbrev pub fault_words : Fault → List ℕ
fault_words f = codes "line " ++ (decimal f.line ++ (codes ": " ++ reason_words f.reason))
