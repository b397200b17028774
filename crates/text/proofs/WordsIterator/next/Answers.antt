use Rattle.std.proofs.Common.{rules, tests}
use Rattle.std.proofs.lemmas.Iterator.{YieldsList-from_slice}
use Rattle.std.proofs.lemmas.Iterator.Search.{position_from_yields_List}
use Rattle.std.proofs.lemmas.Str.Ascii.{trim_ascii_start_is}
use Rattle.text.specs.Words.{blank}
use Rattle.text.proofs.WordLaws.{word_end, next_word, goes_on}
use Rattle.text.proofs.WordsIterator.next.Goals as goal

pub returns-clause-steps : goal.returns-clause-steps
returns-clause-steps c =
    let text = c.trim_ascii_start-text.result.now in
    let found = position_from_yields_List blank _ _ c.position.result c.position.ensures.ran (YieldsList-from_slice text cc) (λ x b q k. search (rules, tests)) in
    rw c.then_some.ensures
    (next_word c.args.self.now.rest.now text c.split_at.result.0 c.split_at.result.1 c.unwrap_or-end.result c.is_empty.result
    (trim_ascii_start_is _ text c.trim_ascii_start-text.ensures.value) (word_end text _ _ found c.unwrap_or-end.ensures) c.split_at.ensures.front c.split_at.ensures.back c.is_empty.ensures)

pub returns-clause-goes : goal.returns-clause-goes
returns-clause-goes c = goes_on c.args.self.now (record { rest = c.split_at.result.1 }) c.then_some.result (returns-clause-steps c)
