use Rattle.std.proofs.Common.{ap, ◌∙◌, rules}
use Rattle.std.specs.Option.{option_map}
use Rattle.unit_file.specs.Records.{item_of}
use Rattle.scanning.proofs.Ends.{at_end_of}
use Rattle.unit_line.proofs.parsing.unit_in.Goals as goal

pub returns : goal.returns
returns c = ap (option_map item_of) c.at_end.ensures ∙ at_end_of item_of _ _ ∙ search rules
