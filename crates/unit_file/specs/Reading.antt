-- Reading a unit file. `rest` is what is left of the file from a record's place on.
--   two_in, four_in             the number in two or in four bytes from an index on
--   length_in                   the length that a record states: how many bytes follow its first two
--   kind_in, fields_in          its kind byte, and the bytes after that
--   sizes_in, unit_in, cost_in  what fields say by their kind
--   item_by, item_in            what the fields of a kind say, and so what a record says
--   fits_kind                   whether a length is one of a kind; an unknown kind has no length of its own
--   bad_length                  cut short, of length 0, or not of its kind's length
--   bad_kind                    of an unknown kind, or a note with a byte outside 32 to 126
--   Framed                      a record of this kind byte and these fields stands in front, and its
--                               length is one of its kind
--   record_refusal              why the record is refused: all of its length, and then its kind
--   record_in                   the record, or its refusal
--   some, after                 an answer that is there; the place after one that is, else the same place
--   record_at, next_place       what the reader answers at a place of a file, and where it then stands
--   headed, misplaced           the record at place 1 is to be the header, and no other is to be one
--   in_order                    an answer, refused where the record is misplaced
--   ordered_at, place_in_order  record_at and next_place where the header's order is looked at too
--   open_refusal                why bytes are no unit file
--   Contents                    what a reading of a whole file gives: the records up to the first
--                               refusal, and that refusal if there is one
--   go_on                       one answer, and the contents behind it
--   contents_from               the contents from a place on, of at most so many records
--   begun, contents_of          the contents of a file, none if it is no unit file
--   records_of                  a file's records, or the first refusal
--   counted                     how many records, or the refusal
--   one_said, said              what a call answered, each record by what it says
use Rattle.std.specs.Prelude.{◌≡◌, ℕ, zero, suc, ◌+◌, ◌-◌, ◌*◌, Bool, true, false, cond, not, ◌&&◌, ◌||◌, List, [], ◌∷◌, length, take, drop, Some, None, Ok, Err, Option, Result, ◌==◌, nat_le, nat_lt, slice_index}
use Rattle.std.specs.Option.{option_map}
use Rattle.tariff.specs.Limits.{most_file_bytes, most_note_bytes}
use Rattle.tariff.specs.Refusals.{first_of, answer}
use Rattle.tariff.specs.declared.refusal.Refusal.{Refusal}
use Rattle.tariff.specs.declared.refusal.Refusal.TheVariants.{NoUnitFile, RecordLength, RecordKind}
use Rattle.tariff.specs.declared.rows.Sizes.{Sizes}
use Rattle.tariff.specs.declared.rows.UnitRow.{UnitRow}
use Rattle.tariff.specs.declared.rows.CostRow.{CostRow}
use Rattle.unit_file.specs.declared.record.Record.{Record}
use Rattle.unit_file.specs.Records.{Item, header, unit, cost, note, item_of, is_header, unprintable}

abbrev pub two_in : List ℕ → ℕ → ℕ
two_in bs i = slice_index bs i * 256 + slice_index bs (i + 1)

abbrev pub four_in : List ℕ → ℕ → ℕ
four_in bs i = slice_index bs i * 16777216 + (slice_index bs (i + 1) * 65536 + (slice_index bs (i + 2) * 256 + slice_index bs (i + 3)))

abbrev pub length_in : List ℕ → ℕ
length_in rest = two_in rest 0

abbrev pub kind_in : List ℕ → ℕ
kind_in rest = slice_index rest 2

abbrev pub fields_in : List ℕ → List ℕ
fields_in rest = take (length_in rest - 1) (drop 3 rest)

abbrev pub sizes_in : List ℕ → Sizes
sizes_in f = record { customers = two_in f 0; days = slice_index f 2; subzones = slice_index f 3 }

abbrev pub unit_in : List ℕ → UnitRow
unit_in f = record { customer = two_in f 0; day = slice_index f 2; hour = slice_index f 3; subzone = slice_index f 4; usage = slice_index f 5; quantity = four_in f 6 }

abbrev pub cost_in : List ℕ → CostRow
cost_in f = record { line = slice_index f 0; subzone = slice_index f 1; day = slice_index f 2; hour = slice_index f 3; amount = four_in f 4 }

abbrev pub item_by : ℕ → List ℕ → Item
item_by kind f = cond (kind == 0) (header (sizes_in f)) (cond (kind == 1) (unit (unit_in f)) (cond (kind == 2) (cost (cost_in f)) (note f)))

abbrev pub item_in : List ℕ → Item
item_in rest = item_by (kind_in rest) (fields_in rest)

abbrev pub fits_kind : ℕ → ℕ → Bool
fits_kind kind len = cond (kind == 0) (len == 5) (cond (kind == 1) (len == 11) (cond (kind == 2) (len == 9) (cond (kind == 3) (nat_le 2 len && nat_le len (1 + most_note_bytes)) true)))

abbrev pub bad_length : List ℕ → Bool
bad_length rest = nat_lt (length rest) 2 || (length_in rest == 0 || (nat_lt (length rest) (2 + length_in rest) || not (fits_kind (kind_in rest) (length_in rest))))

abbrev pub bad_kind : ℕ → List ℕ → Bool
bad_kind kind f = nat_lt 3 kind || (kind == 3 && unprintable f)

pub record Framed (rest : List ℕ) (kind : ℕ) (fields : List ℕ) : Type 0 where
  pub good : bad_length rest ≡ false
  pub kind_is : kind ≡ kind_in rest
  pub fields_are : fields ≡ fields_in rest
  pub long : 1 + length fields ≡ length_in rest

abbrev pub record_refusal : List ℕ → ℕ → Option Refusal
record_refusal rest place = first_of ((bad_length rest, RecordLength place) ∷ (bad_kind (kind_in rest) (fields_in rest), RecordKind place) ∷ [])

abbrev pub record_in : List ℕ → ℕ → Result Item Refusal
record_in rest place = answer (record_refusal rest place) (item_in rest)

abbrev pub some : {X : Type 0} → Result X Refusal → Result (Option X) Refusal
some (Ok x) = Ok (Some x)
some (Err e) = Err e

abbrev pub record_at : List ℕ → ℕ → Result (Option Item) Refusal
record_at bs place = cond (nat_le (length bs) place) (Ok None) (some (record_in (drop place bs) place))

abbrev pub after : {X : Type 0} → Result (Option X) Refusal → ℕ → ℕ → ℕ
after (Err e) place next = place
after (Ok None) place next = place
after (Ok (Some x)) place next = next

abbrev pub next_place : List ℕ → ℕ → ℕ
next_place bs place = after (record_at bs place) place (place + (2 + length_in (drop place bs)))

abbrev pub headed : Option Item → Bool
headed None = false
headed (Some item) = is_header item

abbrev pub misplaced : ℕ → Option Item → Bool
misplaced place found = cond (place == 1) (not (headed found)) (headed found)

abbrev pub in_order : ℕ → Result (Option Item) Refusal → Result (Option Item) Refusal
in_order place (Err e) = Err e
in_order place (Ok found) = cond (misplaced place found) (Err (RecordKind place)) (Ok found)

abbrev pub ordered_at : List ℕ → ℕ → Result (Option Item) Refusal
ordered_at bs place = in_order place (record_at bs place)

abbrev pub place_in_order : List ℕ → ℕ → ℕ
place_in_order bs place = after (ordered_at bs place) place (place + (2 + length_in (drop place bs)))

abbrev pub open_refusal : List ℕ → Option Refusal
open_refusal bs = first_of ((length bs == 0 || (nat_lt most_file_bytes (length bs) || not (slice_index bs 0 == 1)), NoUnitFile) ∷ [])

pub record Contents : Type 0 where
  pub items : List Item
  pub refusal : Option Refusal

abbrev pub go_on : Result (Option Item) Refusal → Contents → Contents
go_on (Err e) rest = record { items = []; refusal = Some e }
go_on (Ok None) rest = record { items = []; refusal = None }
go_on (Ok (Some item)) rest = record { items = item ∷ rest.items; refusal = rest.refusal }

abbrev pub contents_from : ℕ → List ℕ → ℕ → Contents
contents_from zero bs place = record { items = []; refusal = None }
contents_from (suc n) bs place = go_on (ordered_at bs place) (contents_from n bs (place_in_order bs place))

abbrev pub begun : Option Refusal → Contents → Contents
begun None c = c
begun (Some e) c = record { items = []; refusal = Some e }

abbrev pub contents_of : List ℕ → Contents
contents_of bs = begun (open_refusal bs) (contents_from (length bs) bs 1)

abbrev pub records_of : List ℕ → Result (List Item) Refusal
records_of bs = answer (contents_of bs).refusal (contents_of bs).items

abbrev pub counted : Result (List Item) Refusal → Result ℕ Refusal
counted (Ok items) = Ok (length items)
counted (Err e) = Err e

abbrev pub one_said : Result Record Refusal → Result Item Refusal
one_said (Ok r) = Ok (item_of r)
one_said (Err e) = Err e

abbrev pub said : Result (Option Record) Refusal → Result (Option Item) Refusal
said (Ok found) = Ok (option_map item_of found)
said (Err e) = Err e
