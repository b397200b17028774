-- Listing a unit file.
--   Pushed  a text has grown by the lines of contents: by all, if nothing ends them, or up to the refusal
--           that does; where memory runs out, by some
use Rattle.std.specs.Prelude.{◌≡◌, ℕ, List, ◌++◌, Some, None, Ok, Err, Result}
use Rattle.unit_file.specs.Reading.{Contents}
use Rattle.unit_text.specs.declared.listing.Ending.{Ending}
use Rattle.unit_text.specs.declared.listing.Ending.TheVariants.{Refused, OutOfMemory}
use Rattle.unit_text.specs.Lines.{lines_of}

abbrev pub Pushed : List ℕ → List ℕ → Contents → Result (Unit {0}) Ending → Type 0
Pushed before after contents (Ok done) = (after ≡ before ++ lines_of contents.items) × (contents.refusal ≡ None)
Pushed before after contents (Err (Refused refusal)) = (after ≡ before ++ lines_of contents.items) × (contents.refusal ≡ Some refusal)
Pushed before after contents (Err (OutOfMemory error)) = Unit {0}
