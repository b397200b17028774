-- The figures of passes: one that comes too late, and the last number.
--   one_room       a book just opened, with room for one unit row
--   load           a unit row of load
--   pass_numbered  the pass of contributor 5 with a number
--   last_but_one   an open book that has given out every pass number but the last
--   WorkedPasses   admit 5, remove 5, admit 5: a post with the first pass is refused, with the second it is row 0;
--                  the last pass number is given out, and the admit after it is refused
use Rattle.std.specs.Prelude.{◌≡◌, ℕ, [], ◌∷◌, replicate}
use Rattle.tariff.specs.declared.refusal.Refusal.TheVariants.{UnknownContributor, PassNumbersUsedUp, PassNotValid}
use Rattle.tariff.specs.declared.rows.UnitRow.{UnitRow}
use Rattle.tariff.specs.Limits.{contributors}
use Rattle.lines.specs.Rows.{no_units}
use Rattle.book_rules.specs.Machine.{Pass}
use Rattle.book_rules.specs.Run.{State, admit, remove, post, accepted, gave, row, refused, answers, opened, at_opening}

abbrev pub one_room : State
one_room = at_opening (record { customers = 1; days = 1; subzones = 1 }) 7 (no_units ∷ []) []

abbrev pub load : UnitRow
load = record { customer = 0; day = 1; hour = 24; subzone = 1; usage = 0; quantity = 100 }

abbrev pub pass_numbered : ℕ → Pass
pass_numbered n = record { book = 7; contributor = 5; mark = n }

abbrev pub last_but_one : State
last_but_one = opened (record { sizes = record { customers = 1; days = 1; subzones = 1 }; number = 7; units = 0; costs = 0; last_pass = 4294967294 }) [] [] (replicate contributors 0)

pub record WorkedPasses : Type 0 where
  pub first_pass_is_void :
      answers one_room (admit 5 ∷ remove 5 ∷ admit 5 ∷ post (pass_numbered 1) load ∷ post (pass_numbered 2) load ∷ [])
      ≡ gave (pass_numbered 1) ∷ accepted ∷ gave (pass_numbered 2) ∷ refused PassNotValid ∷ row 0 ∷ []
  pub at_the_last_pass_number :
      answers last_but_one (admit 5 ∷ remove 5 ∷ admit 5 ∷ admit 64 ∷ []) ≡ gave (pass_numbered 4294967295) ∷ accepted ∷ refused PassNumbersUsedUp ∷ refused UnknownContributor ∷ []
