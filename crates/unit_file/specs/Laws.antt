-- The two laws of the unit file.
--   Rewritten   of a file's bytes: if it is accepted, its records, written again, give the same
--               bytes, and they are the records of a lawful file
--   ReadBack    records written as a lawful file read back the same
use Rattle.std.specs.Prelude.{◌≡◌, ℕ, List, Ok}
use Rattle.unit_file.specs.Records.{Item, file_of}
use Rattle.unit_file.specs.Reading.{records_of}
use Rattle.unit_file.specs.Writing.{Lawful}

abbrev pub Rewritten : List ℕ → Type 0
Rewritten bytes = (items : List Item) → records_of bytes ≡ Ok items → (file_of items ≡ bytes) × Lawful items

abbrev pub ReadBack : Type 0
ReadBack = (items : List Item) → Lawful items → records_of (file_of items) ≡ Ok items
