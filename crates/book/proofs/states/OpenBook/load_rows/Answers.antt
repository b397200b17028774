use Rattle.std.proofs.Common.{ℕ, ◌+◌, length, None, refl, sym, ap, ◌∙◌, subst, arith}
use Rattle.unit_file.specs.Records.{item_of}
use Rattle.book_rules.specs.Run.{opened}
use Rattle.book.specs.declared.load.RefusedLoad.TheVariants.{File, Book}
use Rattle.book.specs.Load.{reported, call_for, Took, load_from}
use Rattle.book.specs.Shown.{open_book, pass_of}
use Rattle.book.proofs.Loads.{Sofar, at_fault, at_end_is, went_on, at_refusal, done_by_same, few_rows, found_fault, found_record, found_none, stands, stopped_by, took, ended_is}
use Rattle.book.proofs.states.OpenBook.load_rows.Goals as goal

pub returns-in_err-record : goal.returns-in_err-record
returns-in_err-record c =
    let t = found_fault _ _ _ c.next_in_order.result c.next_in_order.ensures.answers c.loop-record.invariant.0 c.in_err-record.field-0.0 c.in_err-record.ensures.cases in
    done_by_same _ _ _ _ _ (ended_is c.loop-record.report.rows _ _ _ c.from_residual.result _ t.0 File refl c.loop-record.invariant.2 c.from_residual.ensures.1 t.2)
    (at_fault _ _ _ _ _ _ _ c.loop-record.invariant.1 t.0 t.1)

pub returns : goal.returns
returns c =
    let none = found_none _ _ _ c.next_in_order.result c.next_in_order.ensures.answers c.loop-record.invariant.0 c.in_ok-record.field-0 c.in_ok-record.ensures.cases c.in_default.is in
    done_by_same _ _ _ _ _ (ap (λ n. reported c.loop-record.report.rows n None) c.loop-record.invariant.2) (at_end_is _ _ _ _ _ _ _ c.loop-record.invariant.1 none)

pub returns-in_err-report : goal.returns-in_err-report
returns-in_err-report c =
    let read = found_record _ _ _ c.next_in_order.result c.next_in_order.ensures.answers c.loop-record.invariant.0 c.in_ok-record.field-0 c.in-Some.record c.in_ok-record.ensures.cases c.in-Some.is in
    let t = stopped_by Book c.load_record-taken.result c.in_err-report.field-0.0 c.in_err-report.ensures.cases in
    let s = opened (open_book c.loop-record.self) c.loop-record.units c.loop-record.costs c.args.marks.now in
    let s1 = opened (open_book c.load_record-taken.new.self) c.load_record-taken.new.units c.load_record-taken.new.costs c.args.marks.now in
    done_by_same _ _ _ _ _ (ended_is c.loop-record.report.rows _ _ _ c.from_residual-in_err-report.result _ t.0 Book refl c.loop-record.invariant.2 c.from_residual-in_err-report.ensures.1 t.2)
    (at_refusal _ _ _ _ _ _ _ c.loop-record.invariant.1 (item_of c.in-Some.record) t.0 s1 read
    (subst (λ r. Took (call_for (pass_of c.args.pass.now) (item_of c.in-Some.record)) s r s1) t.1 c.load_record-taken.ensures))

pub overflow_add-report : goal.overflow_add-report
overflow_add-report c =
    let n = c.in_ok-report.field-0 in
    let s = opened (open_book c.loop-record.self) c.loop-record.units c.loop-record.costs c.args.marks.now in
    let s1 = opened (open_book c.load_record-taken.new.self) c.load_record-taken.new.units c.load_record-taken.new.costs c.args.marks.now in
    let one = few_rows _ s n s1 (took (call_for (pass_of c.args.pass.now) (item_of c.in-Some.record)) s c.load_record-taken.result n s1 c.in_ok-report.ensures.cases c.load_record-taken.ensures) in
    let few = c.loop-record.invariant.1.few in
    let inside = c.loop-record.invariant.1.inside in
    omega arith

pub loop-record-preserved : goal.loop-record-preserved
loop-record-preserved c =
    let read = found_record _ _ _ c.next_in_order.result c.next_in_order.ensures.answers c.loop-record.invariant.0 c.in_ok-record.field-0 c.in-Some.record c.in_ok-record.ensures.cases c.in-Some.is in
    let e = stands _ _ _ _ c.next_in_order.ensures.place c.loop-record.invariant.0 in
    let n = c.in_ok-report.field-0 in
    let s0 = opened (open_book c.args.self.now) c.args.units.now c.args.costs.now c.args.marks.now in
    let s = opened (open_book c.loop-record.self) c.loop-record.units c.loop-record.costs c.args.marks.now in
    let s1 = opened (open_book c.load_record-taken.new.self) c.load_record-taken.new.units c.load_record-taken.new.costs c.args.marks.now in
    let p = pass_of c.args.pass.now in
    let bs = c.args.reader.bytes.now in (
      c.next_in_order.ensures.bytes ∙ c.loop-record.invariant.0,
      subst (λ (k : ℕ). Sofar bs p s0 (load_from (length bs) bs p s0 c.args.reader.place 0) s1 k (c.loop-record.report.rows + n)) (sym e)
          (went_on bs p s0 _ _ c.loop-record.reader.place c.loop-record.report.rows c.loop-record.invariant.1 (item_of c.in-Some.record) n s1 read
          (took (call_for p (item_of c.in-Some.record)) s c.load_record-taken.result n s1 c.in_ok-report.ensures.cases c.load_record-taken.ensures)),
      c.place-report-in-Some.ensures,
    )
