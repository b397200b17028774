-- Reading one line of the text form; `text` is what is left of the line.
--   header_in, unit_in, cost_in  the fields behind the first word of a line
--   item_in                      what a line says, if it is the line of a record
use Rattle.std.specs.Prelude.{ℕ, List, Some, None, codes, Option}
use Rattle.scanning.specs.Scanning.{bind, or_else, after_word, field_in, at_end}
use Rattle.unit_file.specs.Records.{Item, header, unit, cost, note}

abbrev pub header_in : List ℕ → Option Item
header_in text =
    bind (field_in (codes "customers ") 65535 text) (λ customers.
    bind (field_in (codes " days ") 255 customers.1) (λ days.
    bind (field_in (codes " subzones ") 255 days.1) (λ subzones.
    at_end subzones.1 (header (record { customers = customers.0; days = days.0; subzones = subzones.0 })))))

abbrev pub unit_in : List ℕ → Option Item
unit_in text =
    bind (field_in (codes "customer ") 65535 text) (λ customer.
    bind (field_in (codes " day ") 255 customer.1) (λ day.
    bind (field_in (codes " hour ") 255 day.1) (λ hour.
    bind (field_in (codes " subzone ") 255 hour.1) (λ subzone.
    bind (field_in (codes " use ") 255 subzone.1) (λ usage.
    bind (field_in (codes " quantity ") 4294967295 usage.1) (λ quantity.
    at_end quantity.1 (unit (record { customer = customer.0; day = day.0; hour = hour.0; subzone = subzone.0; usage = usage.0; quantity = quantity.0 }))))))))

abbrev pub cost_in : List ℕ → Option Item
cost_in text =
    bind (field_in (codes "line ") 255 text) (λ line.
    bind (field_in (codes " subzone ") 255 line.1) (λ subzone.
    bind (field_in (codes " day ") 255 subzone.1) (λ day.
    bind (field_in (codes " hour ") 255 day.1) (λ hour.
    bind (field_in (codes " amount ") 4294967295 hour.1) (λ amount.
    at_end amount.1 (cost (record { line = line.0; subzone = subzone.0; day = day.0; hour = hour.0; amount = amount.0 })))))))

abbrev pub item_in : List ℕ → Option Item
item_in text =
    or_else (after_word (codes "book ") text) header_in (
    or_else (after_word (codes "units ") text) unit_in (
    or_else (after_word (codes "cost ") text) cost_in (
    or_else (after_word (codes "note ") text) (λ bytes. Some (note bytes)) None)))
