-- The book and the passes of the code, as the machine's.
--   numbers_of              the numbers of a book
--   open_book, frozen_book  the book in an open and in a frozen one
--   pass_of                 what a pass says
use Rattle.lines.specs.Checked.{sizes_of}
use Rattle.book_rules.specs.Machine.{Book, Pass}
use Rattle.book.specs.declared.states.FrozenBook.{FrozenBook}
use Rattle.book.specs.declared.states.Numbers.{Numbers}
use Rattle.book.specs.declared.states.OpenBook.{OpenBook}
use Rattle.book.specs.declared.states.Pass.{Pass as Token}

abbrev pub numbers_of : Numbers → Book
numbers_of n = record { sizes = sizes_of n.sizes; number = n.number; units = n.units; costs = n.costs; last_pass = n.last_pass }

abbrev pub open_book : OpenBook → Book
open_book b = numbers_of b.numbers

abbrev pub frozen_book : FrozenBook → Book
frozen_book b = numbers_of b.numbers

abbrev pub pass_of : Token → Pass
pass_of p = record { book = p.book; contributor = p.contributor; mark = p.mark }
