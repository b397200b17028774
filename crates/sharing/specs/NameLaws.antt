-- That the rule of each name keeps the laws of sharing.
--   named_lawful   each of the two does
use Rattle.sharing.specs.Rule.{Lawful}
use Rattle.sharing.specs.Laws.{down_lawful, running_lawful}
use Rattle.sharing.specs.Names.{meaning_of}
use Rattle.sharing.specs.declared.names.RuleName.{RuleName}
use Rattle.sharing.specs.declared.names.RuleName.TheVariants.{Down, Running}

pub named_lawful : (name : RuleName) → Lawful (meaning_of name)
named_lawful Down = down_lawful
named_lawful Running = running_lawful
