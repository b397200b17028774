-- The limits of a book and of its files.
--   most_customers, most_days, most_subzones  the sizes of a book
--   hours_of_day                              the hours of a day
--   most_amount                               the most of a quantity, an amount, a pool, a limited sum
--   contributors                              how many marks a book has
--   last_pass_number                          the last number that a pass can have
--   most_file_bytes, most_note_bytes          the longest file and the longest note
use Rattle.std.specs.Prelude.{ℕ}

abbrev pub most_customers : ℕ
most_customers = 256

abbrev pub most_days : ℕ
most_days = 31

abbrev pub most_subzones : ℕ
most_subzones = 32

abbrev pub hours_of_day : ℕ
hours_of_day = 24

abbrev pub most_amount : ℕ
most_amount = 2147483647

abbrev pub contributors : ℕ
contributors = 64

abbrev pub last_pass_number : ℕ
last_pass_number = 4294967295

abbrev pub most_file_bytes : ℕ
most_file_bytes = 65536

abbrev pub most_note_bytes : ℕ
most_note_bytes = 200
