-- Records of a unit file, and the bytes that each is written as.
--   Item                   what a record says; a note is its own bytes
--   item_of                what a record of the program says
--   is_header              whether it is a header
--   unprintable            whether a note has a byte outside 32 to 126
--   two_bytes, four_bytes  a number, most significant byte first
--   kind_of, fields_of     the kind byte of a record and the bytes that follow it
--   bytes_of               the whole record: two bytes of length, the kind, the fields
--   file_of                a whole file: the version byte 1 and the records
use Rattle.std.specs.Prelude.{ℕ, ◌+◌, ◌/◌, ◌%◌, Bool, true, false, ◌||◌, List, [], ◌∷◌, ◌++◌, length, nat_lt}
use Rattle.std.specs.List.{flat_map, list_any}
use Rattle.tariff.specs.declared.rows.Sizes.{Sizes}
use Rattle.tariff.specs.declared.rows.UnitRow.{UnitRow}
use Rattle.tariff.specs.declared.rows.CostRow.{CostRow}
use Rattle.unit_file.specs.declared.record.Record.{Record}
use Rattle.unit_file.specs.declared.record.Record.TheVariants.{Header, Unit, Cost, Note}

pub data Item : Type 0 where
  header : Sizes → Item
  unit : UnitRow → Item
  cost : CostRow → Item
  note : List ℕ → Item

abbrev pub item_of : Record → Item
item_of (Header sizes) = header sizes
item_of (Unit row) = unit row
item_of (Cost row) = cost row
item_of (Note bytes) = note bytes.now

abbrev pub is_header : Item → Bool
is_header (header sizes) = true
is_header (unit row) = false
is_header (cost row) = false
is_header (note bytes) = false

abbrev pub unprintable : List ℕ → Bool
unprintable = list_any (λ b. nat_lt b 32 || nat_lt 126 b)

abbrev pub two_bytes : ℕ → List ℕ
two_bytes n = n / 256 ∷ n % 256 ∷ []

abbrev pub four_bytes : ℕ → List ℕ
four_bytes n = n / 16777216 ∷ n / 65536 % 256 ∷ n / 256 % 256 ∷ n % 256 ∷ []

abbrev pub kind_of : Item → ℕ
kind_of (header sizes) = 0
kind_of (unit row) = 1
kind_of (cost row) = 2
kind_of (note bytes) = 3

abbrev pub fields_of : Item → List ℕ
fields_of (header sizes) = two_bytes sizes.customers ++ (sizes.days ∷ sizes.subzones ∷ [])
fields_of (unit row) = two_bytes row.customer ++ (row.day ∷ row.hour ∷ row.subzone ∷ row.usage ∷ four_bytes row.quantity)
fields_of (cost row) = row.line ∷ row.subzone ∷ row.day ∷ row.hour ∷ four_bytes row.amount
fields_of (note bytes) = bytes

abbrev pub bytes_of : Item → List ℕ
bytes_of item = two_bytes (1 + length (fields_of item)) ++ (kind_of item ∷ fields_of item)

abbrev pub file_of : List Item → List ℕ
file_of items = 1 ∷ flat_map bytes_of items
