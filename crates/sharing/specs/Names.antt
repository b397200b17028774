-- The package's rules by their names.
--   meaning_of  what the rule of a name means
--   rule_word   the word for a name
--   Names       a word names a rule just where it is the rule's word
use Rattle.std.specs.Prelude.{◌≡◌, ℕ, List, Option, MatchOption, codes}
use Rattle.sharing.specs.Rule.{Meaning}
use Rattle.sharing.specs.Rules.{down, running}
use Rattle.sharing.specs.declared.names.RuleName.{RuleName}
use Rattle.sharing.specs.declared.names.RuleName.TheVariants.{Down, Running}

abbrev pub meaning_of : RuleName → Meaning
meaning_of Down = down
meaning_of Running = running

abbrev pub rule_word : RuleName → List ℕ
rule_word Down = codes "down"
rule_word Running = codes "running"

abbrev pub Names : List ℕ → Option RuleName → Type 0
Names word found = MatchOption found ((name : RuleName) → word ≡ rule_word name → ⊥) (λ name. word ≡ rule_word name)
