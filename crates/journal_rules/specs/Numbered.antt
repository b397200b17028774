-- The passes of a journal go by the numbers that the book gave them.
--   Numbered   there is a place for each pass that the book gave, and a pass stands at its own number
use Rattle.std.specs.Prelude.{◌≡◌, ℕ, length, Some}
use Rattle.book_rules.specs.Machine.{Pass}
use Rattle.journal_rules.specs.Journal.{Journal, held_pass}

pub record Numbered (j : Journal) : Type 0 where
  pub places : length j.held ≡ j.state.book.last_pass
  pub numbers : (n : ℕ) (p : Pass) → held_pass j.held n ≡ Some p → p.mark ≡ n
