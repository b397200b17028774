-- What the calls of the story answered.
--   said_refused                     a refusal, by its number
--   said_row, said_done, said_bill   an answer with a row number, without a value, of a bill with its columns
use Rattle.std.specs.Prelude.{ℕ, List, Ok, Err, Result}
use Rattle.tariff.specs.declared.refusal.Refusal.{Refusal}
use Rattle.tariff.specs.Refusals.{number}
use Rattle.bill_rules.specs.declared.Remainders.{Remainders}
use Rattle.cached_pass.specs.declared.said.Said.{Said}
use Rattle.cached_pass.specs.declared.said.Said.TheVariants.{Done, Row, Bill, Refused}

abbrev pub said_refused : Refusal → Said
said_refused e = Refused (number e)

abbrev pub said_row : Result ℕ Refusal → Said
said_row (Ok n) = Row n
said_row (Err e) = Refused (number e)

abbrev pub said_done : Result (Unit {0}) Refusal → Said
said_done (Ok _) = Done
said_done (Err e) = Refused (number e)

abbrev pub said_bill : Result Remainders Refusal → List ℕ → List ℕ → List ℕ → Said
said_bill (Ok r) charges stations credits = Bill (record { charges = charges; stations = stations; credits = credits; left = r })
said_bill (Err e) charges stations credits = Refused (number e)
