-- The text form of a unit file: one record a line.
--   text_of     the words and numbers of a record, without the line end
--   line_of     its line
--   lines_of    the lines of records, one behind the other
--   fault_line  the line of the refusal that ends a listing, if one does
--   listed      the text of contents: their lines, and the refusal
--   listing     the text of a file
use Rattle.std.specs.Prelude.{ℕ, List, [], ◌∷◌, ◌++◌, Some, None, codes, decimal, Option}
use Rattle.std.specs.List.{flat_map}
use Rattle.tariff.specs.Refusals.{words}
use Rattle.tariff.specs.declared.refusal.Refusal.{Refusal}
use Rattle.tariff.specs.declared.rows.Sizes.{Sizes}
use Rattle.tariff.specs.declared.rows.UnitRow.{UnitRow}
use Rattle.tariff.specs.declared.rows.CostRow.{CostRow}
use Rattle.unit_file.specs.Reading.{Contents, contents_of}
use Rattle.unit_file.specs.Records.{Item, header, unit, cost, note}

abbrev pub header_text : Sizes → List ℕ
header_text s = codes "book customers " ++ (decimal s.customers ++ (codes " days " ++ (decimal s.days ++ (codes " subzones " ++ decimal s.subzones))))

abbrev pub unit_text : UnitRow → List ℕ
unit_text r = codes "units customer " ++ (decimal r.customer ++ (codes " day " ++ (decimal r.day ++ (codes " hour " ++ (decimal r.hour
    ++ (codes " subzone " ++ (decimal r.subzone ++ (codes " use " ++ (decimal r.usage ++ (codes " quantity " ++ decimal r.quantity))))))))))

abbrev pub cost_text : CostRow → List ℕ
cost_text r = codes "cost line " ++ (decimal r.line ++ (codes " subzone " ++ (decimal r.subzone ++ (codes " day " ++ (decimal r.day
    ++ (codes " hour " ++ (decimal r.hour ++ (codes " amount " ++ decimal r.amount))))))))

abbrev pub text_of : Item → List ℕ
text_of (header s) = header_text s
text_of (unit r) = unit_text r
text_of (cost r) = cost_text r
text_of (note bytes) = codes "note " ++ bytes

abbrev pub line_of : Item → List ℕ
line_of item = text_of item ++ (10 ∷ [])

abbrev pub lines_of : List Item → List ℕ
lines_of items = flat_map line_of items

abbrev pub fault_line : Option Refusal → List ℕ
fault_line None = []
fault_line (Some e) = words e ++ (10 ∷ [])

abbrev pub listed : Contents → List ℕ
listed c = lines_of c.items ++ fault_line c.refusal

abbrev pub listing : List ℕ → List ℕ
listing bytes = listed (contents_of bytes)
