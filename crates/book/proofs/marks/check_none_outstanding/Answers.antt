use Rattle.std.proofs.Common.{not, eqb, rules, tests, ◌∙◌}
use Rattle.std.proofs.lemmas.Iterator.{YieldsList-from_slice}
use Rattle.std.proofs.lemmas.Iterator.Search.{any_from_yields_List}
use Rattle.book.proofs.Outcomes.{outstanding_is}
use Rattle.book.proofs.marks.check_none_outstanding.Goals as goal

pub returns-then-any : goal.returns-then-any
returns-then-any c =
    let some = any_from_yields_List (λ m. not (eqb m 0)) _ _ _ c.if-any.ensures.ran (YieldsList-from_slice c.args.marks.now cc) (λ x b q k. search (rules, tests)) ∙ outstanding_is c.args.marks.now in
    search rules

pub returns : goal.returns
returns c =
    let none = any_from_yields_List (λ m. not (eqb m 0)) _ _ _ c.if-any.ensures.ran (YieldsList-from_slice c.args.marks.now cc) (λ x b q k. search (rules, tests)) ∙ outstanding_is c.args.marks.now in
    search rules
