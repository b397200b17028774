-- Writing a unit file into a buffer, record by record.
--   bad_note_length, bad_note_bytes  a note of 0 or above 200 bytes, or with a byte outside 32 to 126
--   file_refusal                     why a record may not stand at a place of a file
--   put_refusal                      why a record is not written at a place of a buffer with so much room
--   begin_refusal                    why a file cannot be begun in a buffer
--   finish_refusal                   why a file cannot end at a place: its header is missing
--   LawfulFrom                       records that may be written one after another from a place on
--   Lawful                           the records of a lawful file: a header and then none, and each well made
--   WrittenAs                        a writer at a place has put these records into a buffer, and no others
use Rattle.std.specs.Prelude.{◌≡◌, ℕ, ◌+◌, ◌<◌, ◌≤◌, Bool, false, ◌||◌, List, [], ◌∷◌, length, take, Some, Option, ◌==◌, nat_le, nat_lt}
use Rattle.tariff.specs.Limits.{most_file_bytes, most_note_bytes}
use Rattle.tariff.specs.Refusals.{first_of}
use Rattle.tariff.specs.declared.refusal.Refusal.{Refusal}
use Rattle.tariff.specs.declared.refusal.Refusal.TheVariants.{NoUnitFile, RecordLength, RecordKind, BufferTooShort}
use Rattle.unit_file.specs.Records.{Item, header, unit, cost, note, unprintable, bytes_of, file_of}
use Rattle.unit_file.specs.Reading.{misplaced}

abbrev pub bad_note_length : Item → Bool
bad_note_length (header sizes) = false
bad_note_length (unit row) = false
bad_note_length (cost row) = false
bad_note_length (note bytes) = length bytes == 0 || nat_lt most_note_bytes (length bytes)

abbrev pub bad_note_bytes : Item → Bool
bad_note_bytes (header sizes) = false
bad_note_bytes (unit row) = false
bad_note_bytes (cost row) = false
bad_note_bytes (note bytes) = unprintable bytes

abbrev pub file_refusal : ℕ → Item → Option Refusal
file_refusal place item = first_of (
    (nat_lt most_file_bytes (place + length (bytes_of item)), NoUnitFile) ∷
    (bad_note_length item, RecordLength place) ∷
    (bad_note_bytes item || misplaced place (Some item), RecordKind place) ∷ [])

abbrev pub put_refusal : ℕ → ℕ → Item → Option Refusal
put_refusal place room item = first_of (
    (nat_lt most_file_bytes (place + length (bytes_of item)), NoUnitFile) ∷
    (bad_note_length item, RecordLength place) ∷
    (bad_note_bytes item || misplaced place (Some item), RecordKind place) ∷
    (nat_lt room (place + length (bytes_of item)), BufferTooShort) ∷ [])

abbrev pub begin_refusal : ℕ → Option Refusal
begin_refusal room = first_of (((room == 0), BufferTooShort) ∷ [])

abbrev pub finish_refusal : ℕ → Option Refusal
finish_refusal place = first_of ((nat_le place 1, RecordKind 1) ∷ [])

abbrev pub LawfulFrom : ℕ → List Item → Type 0
LawfulFrom place [] = Unit {0}
LawfulFrom place (item ∷ items) =
    ((bad_note_length item ≡ false) × (bad_note_bytes item ≡ false) × (misplaced place (Some item) ≡ false)) × LawfulFrom (place + length (bytes_of item)) items

pub record Lawful (items : List Item) : Type 0 where
  pub some : 0 < length items
  pub each : LawfulFrom 1 items
  pub small : length (file_of items) ≤ most_file_bytes

pub record WrittenAs (items : List Item) (place : ℕ) (out : List ℕ) : Type 0 where
  pub bytes : take place out ≡ file_of items
  pub reached : place ≡ length (file_of items)
  pub each : LawfulFrom 1 items
  pub small : length (file_of items) ≤ most_file_bytes
