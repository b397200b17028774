use Rattle.std.proofs.Common.{◌≡◌, ℕ, List, Err, rules, vec_items, sym, ◌∙◌, subst}
use Rattle.std.specs.Vec.{with_items}
use Rattle.std.proofs.lemmas.List.{with_items_is}
use Rattle.book_rules.specs.Laws.{LawsOfALife}
use Rattle.book_rules.specs.Run.{opened}
use Rattle.book.specs.Shown.{open_book}
use Rattle.journal_book.specs.declared.errors.OpenError.TheVariants.{Refused}
use Rattle.journal_book.proofs.Journals.{opens, not_opened}
use Rattle.journal_book.proofs.states.Journal.open.Goals as goal

pub returns-in_err-book-clause-answers : goal.returns-in_err-book-clause-answers
returns-in_err-book-clause-answers c =
    let refusal = c.in_err-book.field-0.0 in
    let err : c.from_residual-in_err-book.result ≡ Err (Refused refusal) = search rules in
    rw err (not_opened c.args.opening c.deref_mut.result.now (c.deref_mut.ensures.value ∙ c.in_ok-marks.ensures.items_if_clones_equal (λ y e. e)) refusal c.in_err-book.ensures.answers)

pub returns-clause-answers : goal.returns-clause-answers
returns-clause-answers c =
    let told = c.in_ok-book.ensures in
    let left = c.open.new.marks in
    let slice = c.deref_mut.ensures in
    let filled : vec_items (with_items c.in_ok-marks.marks left) ≡ left = with_items_is c.in_ok-marks.marks left (c.open.auto.marks ∙ slice.len) in
    opens c.args.opening c.deref_mut.result.now (slice.value ∙ c.in_ok-marks.ensures.items_if_clones_equal (λ y e. e)) (open_book c.in_ok-book.book) (vec_items c.in_ok-units.units) (vec_items c.in_ok-costs.costs) left
    (vec_items (with_items c.in_ok-marks.marks left)) (vec_items c.new.result) told.answers told.clears
    (c.in_ok-units.ensures.items_if_clones_equal (λ y e. e)) (c.in_ok-costs.ensures.items_if_clones_equal (λ y e. e)) filled c.new.ensures.items

pub returns-clause-life : goal.returns-clause-life
returns-clause-life c =
    let left = c.open.new.marks in
    let filled : vec_items (with_items c.in_ok-marks.marks left) ≡ left = with_items_is c.in_ok-marks.marks left (c.open.auto.marks ∙ c.deref_mut.ensures.len) in
    subst (λ (l : List ℕ). LawsOfALife (opened (open_book c.in_ok-book.book) (vec_items c.in_ok-units.units) (vec_items c.in_ok-costs.costs) l)) (sym filled) (c.in_ok-book.ensures.life (vec_items c.in_ok-units.units) (vec_items c.in_ok-costs.costs))
