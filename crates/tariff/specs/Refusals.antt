-- The refusals.
--   number      the published number of a refusal, 1 to 19
--   reason      its reason in words
--   told        what it tells beside its number
--   table_word  the word for a table
--   told_words  what is told, as it follows a reason
--   words       the whole line that a user reads
--   first_of    the first refusal of a list of tests whose test holds: the checking order of a call
--   answer      what a call answers: its refusal, or a value
--   unless      what a call leaves: the old value where it is refused, else the new one
use Rattle.std.specs.Prelude.{ℕ, Bool, cond, List, [], ◌∷◌, ◌++◌, Some, None, Ok, Err, codes, decimal, Option, Result}
use Rattle.tariff.specs.declared.refusal.Refusal.{Refusal}
use Rattle.tariff.specs.declared.refusal.Refusal.TheVariants.{SizeOutOfRange, TableUnfit, UnknownContributor, AlreadyAdmitted, PassNumbersUsedUp, NotAdmitted, PassNotValid, FieldOutOfRange, NoSuchRow, TableFull, SumTooLarge, PassOutstanding, UnlawfulRow, StationChargesTooLarge, RuleInput, NoUnitFile, RecordLength, RecordKind, BufferTooShort}
use Rattle.tariff.specs.declared.refusal.Table.{Table}
use Rattle.tariff.specs.declared.refusal.Table.TheVariants.{Unit as UnitTable, Cost as CostTable}
use Rattle.tariff.specs.declared.refusal.Told.{Told}
use Rattle.tariff.specs.declared.refusal.Told.TheVariants.{Nothing, Row, AreaAndDay, Place}

abbrev pub number : Refusal → ℕ
number SizeOutOfRange = 1
number TableUnfit = 2
number UnknownContributor = 3
number AlreadyAdmitted = 4
number PassNumbersUsedUp = 5
number NotAdmitted = 6
number PassNotValid = 7
number FieldOutOfRange = 8
number NoSuchRow = 9
number TableFull = 10
number SumTooLarge = 11
number PassOutstanding = 12
number (UnlawfulRow table row) = 13
number (StationChargesTooLarge subzone day) = 14
number RuleInput = 15
number NoUnitFile = 16
number (RecordLength place) = 17
number (RecordKind place) = 18
number BufferTooShort = 19

abbrev pub reason : Refusal → List ℕ
reason SizeOutOfRange = codes "a size is out of range (1 to 256 customers, 1 to 31 days, 1 to 32 subzones)"
reason TableUnfit = codes "a table has fewer rows than the book counts, the marks are not 64, or a column has not one place a customer"
reason UnknownContributor = codes "a contributor number is above 63"
reason AlreadyAdmitted = codes "the contributor is admitted already (its mark is not 0)"
reason PassNumbersUsedUp = codes "every pass number up to 4294967295 has been given out"
reason NotAdmitted = codes "the contributor is not admitted (its mark is 0)"
reason PassNotValid = codes "the pass is not valid"
reason FieldOutOfRange = codes "a field or a line number is outside what the book allows, or a file's sizes are not the book's"
reason NoSuchRow = codes "the book counts no such unit row"
reason TableFull = codes "the table has no free row"
reason SumTooLarge = codes "a sum of quantities or costs would pass 2147483647"
reason PassOutstanding = codes "a pass is still out (a mark is not 0)"
reason (UnlawfulRow table row) = codes "a row is unlawful, by a field or by the sum up to it"
reason (StationChargesTooLarge subzone day) = codes "the station charges of one area and day add up to more than 2147483647 cents"
reason RuleInput = codes "a sharing rule takes at most 256 customers, one place a customer, and a pool and a sum of units of at most 2147483647"
reason NoUnitFile = codes "the file is empty, longer than 65536 bytes, or does not begin with byte 1"
reason (RecordLength place) = codes "a record is cut short, has length 0, or has not the length of its kind"
reason (RecordKind place) = codes "a kind is unknown, the header is missing or repeated, or a note has a byte outside 32 to 126"
reason BufferTooShort = codes "the buffer is too short for what is to be written"

-- refusals 16 to 18 tell a byte place, and 16 always byte 0
abbrev pub told : Refusal → Told
told SizeOutOfRange = Nothing
told TableUnfit = Nothing
told UnknownContributor = Nothing
told AlreadyAdmitted = Nothing
told PassNumbersUsedUp = Nothing
told NotAdmitted = Nothing
told PassNotValid = Nothing
told FieldOutOfRange = Nothing
told NoSuchRow = Nothing
told TableFull = Nothing
told SumTooLarge = Nothing
told PassOutstanding = Nothing
told (UnlawfulRow table row) = Row table row
told (StationChargesTooLarge subzone day) = AreaAndDay subzone day
told RuleInput = Nothing
told NoUnitFile = Place 0
told (RecordLength place) = Place place
told (RecordKind place) = Place place
told BufferTooShort = Nothing

abbrev pub table_word : Table → List ℕ
table_word UnitTable = codes "unit"
table_word CostTable = codes "cost"

abbrev pub told_words : Told → List ℕ
told_words Nothing = []
told_words (Row table row) = codes " (" ++ (table_word table ++ (codes " table, row " ++ (decimal row ++ codes ")")))
told_words (AreaAndDay subzone day) = codes " (subzone " ++ (decimal subzone ++ (codes ", day " ++ (decimal day ++ codes ")")))
told_words (Place place) = codes " (at byte " ++ (decimal place ++ codes ")")

abbrev pub words : Refusal → List ℕ
words r = codes "refusal " ++ (decimal (number r) ++ (codes ": " ++ (reason r ++ told_words (told r))))

abbrev pub first_of : List (Bool × Refusal) → Option Refusal
first_of [] = None
first_of (t ∷ ts) = cond t.0 (Some t.1) (first_of ts)

abbrev pub answer : {X : Type 0} → Option Refusal → X → Result X Refusal
answer None x = Ok x
answer (Some e) x = Err e

abbrev pub unless : {X : Type 0} → Option Refusal → X → X → X
unless None old new = new
unless (Some e) old new = old
