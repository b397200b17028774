use Rattle.std.proofs.Common.{false, Err, refl, sym, ap, ◌∙◌}
use Rattle.std.specs.Option.{option_map}
use Rattle.std.proofs.lemmas.Result.{MatchResult-at_ok, MatchResult-at_err}
use Rattle.tariff.specs.declared.refusal.Refusal.TheVariants.{FieldOutOfRange}
use Rattle.tariff.proofs.Refused.{err_tells}
use Rattle.unit_file.specs.Records.{item_of}
use Rattle.unit_file.specs.Reading.{said}
use Rattle.book_rules.specs.Run.{opened}
use Rattle.book.specs.declared.load.RefusedLoad.TheVariants.{File, Book}
use Rattle.book.specs.Load.{load_refusal}
use Rattle.book.specs.Shown.{open_book, pass_of}
use Rattle.book.proofs.Loads.{went, stopped_by, let_in, done_stopped, refused_is, no_file_is, no_record_is, no_header_is, first_is, load_is, unalike}
use Rattle.book.proofs.states.OpenBook.load_file.Goals as goal

pub returns-in_err-map_err : goal.returns-in_err-map_err
returns-in_err-map_err c =
    let s = opened (open_book c.args.self.now) c.args.units.now c.args.costs.now c.args.marks.now in
    let p = pass_of c.args.pass.now in
    let t = stopped_by Book c.check_load-checked.result c.in_err-map_err.field-0.0 c.in_err-map_err.ensures.cases in
    done_stopped s _ c.args.report.now.rows 0 _ 0 c.from_residual.result _ t.0 Book (ap (λ r. r.rows) c.requires) (ap (λ r. r.place) c.requires) c.from_residual.ensures.1 t.2
    (refused_is s p _ t.0 (err_tells (load_refusal s p) t.0 tt (sym t.1 ∙ c.check_load-checked.ensures)))

pub returns-in_err-reader : goal.returns-in_err-reader
returns-in_err-reader c =
    let s = opened (open_book c.args.self.now) c.args.units.now c.args.costs.now c.args.marks.now in
    let p = pass_of c.args.pass.now in
    let none = let_in s p c.check_load-checked.result _ c.check_load-checked.ensures c.in_ok-map_err.ensures.cases in
    let t = stopped_by File c.new.result c.in_err-reader.field-0.0 c.in_err-reader.ensures.cases in
    done_stopped s _ c.args.report.now.rows 0 _ 0 c.from_residual-in_err-reader.result _ t.0 File (ap (λ r. r.rows) c.requires) (ap (λ r. r.place) c.requires) c.from_residual-in_err-reader.ensures.1 t.2
    (no_file_is s p _ none t.0 (MatchResult-at_err _ _ t.0 t.1 c.new.ensures))

pub returns-in_err-first : goal.returns-in_err-first
returns-in_err-first c =
    let s = opened (open_book c.args.self.now) c.args.units.now c.args.costs.now c.args.marks.now in
    let p = pass_of c.args.pass.now in
    let none = let_in s p c.check_load-checked.result _ c.check_load-checked.ensures c.in_ok-map_err.ensures.cases in
    let new = MatchResult-at_ok _ _ c.in_ok-reader.reader (went File c.new.result c.in_ok-reader.reader c.in_ok-reader.ensures.cases) c.new.ensures in
    let t = stopped_by File c.next.result c.in_err-first.field-0.0 c.in_err-first.ensures.cases in
    done_stopped s _ c.args.report.now.rows 0 _ 1 c.from_residual-in_err-first.result _ t.0 File (ap (λ r. r.rows) c.requires) (c.place-report.ensures ∙ new.2) c.from_residual-in_err-first.ensures.1 t.2
    (no_record_is s p _ none new.0 (said c.next.result) (first_is _ _ _ c.next.result new.1 new.2 c.next.ensures.answers) t.0 (ap said t.1))

pub returns-in_err-sizes : goal.returns-in_err-sizes
returns-in_err-sizes c =
    let s = opened (open_book c.args.self.now) c.args.units.now c.args.costs.now c.args.marks.now in
    let p = pass_of c.args.pass.now in
    let none = let_in s p c.check_load-checked.result _ c.check_load-checked.ensures c.in_ok-map_err.ensures.cases in
    let new = MatchResult-at_ok _ _ c.in_ok-reader.reader (went File c.new.result c.in_ok-reader.reader c.in_ok-reader.ensures.cases) c.new.ensures in
    let found = went File c.next.result c.in_ok-first.first c.in_ok-first.ensures.cases in
    let t = stopped_by File c.header_of.result c.in_err-sizes.field-0.0 c.in_err-sizes.ensures.cases in
    done_stopped s _ c.args.report.now.rows 0 _ 1 c.from_residual-in_err-sizes.result _ t.0 File (ap (λ r. r.rows) c.requires) (c.place-report.ensures ∙ new.2) c.from_residual-in_err-sizes.ensures.1 t.2
    (no_header_is s p _ none new.0 (said c.next.result) (first_is _ _ _ c.next.result new.1 new.2 c.next.ensures.answers) (option_map item_of c.in_ok-first.first) t.0 (ap said found) (sym c.header_of.ensures ∙ t.1))

pub returns-then-ne : goal.returns-then-ne
returns-then-ne c =
    let s = opened (open_book c.args.self.now) c.args.units.now c.args.costs.now c.args.marks.now in
    let p = pass_of c.args.pass.now in
    let none = let_in s p c.check_load-checked.result _ c.check_load-checked.ensures c.in_ok-map_err.ensures.cases in
    let new = MatchResult-at_ok _ _ c.in_ok-reader.reader (went File c.new.result c.in_ok-reader.reader c.in_ok-reader.ensures.cases) c.new.ensures in
    let found = ap said (sym (went File c.next.result c.in_ok-first.first c.in_ok-first.ensures.cases)) ∙ c.next.ensures.answers in
    let headed = sym (went File c.header_of.result c.in_ok-sizes.sizes c.in_ok-sizes.ensures.cases) ∙ c.header_of.ensures in
    done_stopped s _ c.args.report.now.rows 0 _ 1 (Err (Book FieldOutOfRange)) (Book FieldOutOfRange) FieldOutOfRange Book (ap (λ r. r.rows) c.requires) (c.place-report.ensures ∙ new.2) refl refl
    (load_is s p _ c.in_ok-reader.reader.bytes.now c.in_ok-reader.reader.place c.next.new.self.place c.in_ok-first.first c.in_ok-sizes.sizes c.sizes.result false none new.0 new.1 new.2
    found c.next.ensures.place headed c.sizes.ensures (unalike _ c.if-ne.ensures))
