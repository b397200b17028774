-- The kinds of records and their bytes.
--   byte_of  the byte that says a kind
--   Decodes  what a byte is read as: the kind that it says; above 3 none
use Rattle.std.specs.Prelude.{◌≡◌, ℕ, ◌<◌, Result, MatchResult}
use Rattle.unit_file.specs.declared.record.Kind.{Kind}
use Rattle.unit_file.specs.declared.record.Kind.TheVariants.{Header, Unit, Cost, Note}
use Rattle.unit_file.specs.declared.record.UnknownKind.{UnknownKind}

abbrev pub byte_of : Kind → ℕ
byte_of Header = 0
byte_of Unit = 1
byte_of Cost = 2
byte_of Note = 3

abbrev pub Decodes : ℕ → Result Kind UnknownKind → Type 0
Decodes byte r = MatchResult r (λ kind. byte_of kind ≡ byte) (λ _. 3 < byte)
