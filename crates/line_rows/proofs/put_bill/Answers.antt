use Rattle.std.proofs.Common.{◌≡◌, ◌≤◌, [], length, take, Ok, Err, ◌∙◌, arith, w64, SFits, rules}
use Rattle.tariff.specs.declared.refusal.Refusal.TheVariants.{TableUnfit}
use Rattle.bill_rules.specs.Bill.{bill}
use Rattle.book_rules.specs.Machine.{book_bill, short_tables}
use Rattle.book_rules.specs.Run.{closed}
use Rattle.book.specs.Shown.{frozen_book}
use Rattle.line_rows.specs.Rows.{book_columns}
use Rattle.line_rows.specs.Writing.{most_rows}
use Rattle.line_rows.proofs.Answering.{figured, accepted_is, refused_is, counted_rows}
use Rattle.line_rows.proofs.Bounds.{figures_small, far_below}
use Rattle.line_rows.proofs.Lengths.{rows_fit}
use Rattle.line_rows.proofs.Putting.{rows_have, none_have, put_refused, put_rows}
use Rattle.line_rows.proofs.put_bill.Goals as goal

pub returns-in_err-left : goal.returns-in_err-left
returns-in_err-left g c =
    let m = g.R.SharingRule.meaning c.args.rule.now in
    let n = c.args.line in
    let b = frozen_book c.args.book.now in
    let us = c.args.units.now in
    let cs = c.args.costs.now in
    let whole = book_bill m n b us cs (book_columns b) in
    let e = c.in_err-left.field-0.0 in
    let law = c.in_err-left.ensures.lawful in
    let same : Err e ≡ whole = refused_is m n b us cs _ (search rules) (search rules) (search rules) (closed b us cs []) e (c.in_err-left.ensures.answers law []) in
    let put = put_refused c.args.out.now c.args.place n whole e same in
    let given : c.from_residual.result ≡ Err e = search rules in
    record { answers = given ∙ put.0; out = put.1; short = none_have n whole e (λ rows. length rows ≤ most_rows n) same; lawful = law; means = c.in_err-left.ensures.means }

pub invariant_of-columns : goal.invariant_of-columns
invariant_of-columns g c =
    let m = g.R.SharingRule.meaning c.args.rule.now in
    let n = c.args.line in
    let b = frozen_book c.args.book.now in
    let us = c.args.units.now in
    let cs = c.args.costs.now in
    let law = c.in_ok-left.ensures.lawful in
    let f = figured c.bill.new.charges c.bill.new.stations c.bill.new.credits c.in_ok-left.left in
    let is : Ok f ≡ book_bill m n b us cs (book_columns b) = accepted_is m n b us cs _ (search rules) (search rules) (search rules) (closed b us cs []) f (c.in_ok-left.ensures.answers law []) in
    let small = figures_small m law n b.sizes (take b.units us) (take b.costs cs) (book_columns b) f c.args.book.now.numbers.sizes.ok (counted_rows (short_tables b us cs) TableUnfit (bill m n b.sizes (take b.units us) (take b.costs cs) (book_columns b)) f is) in
    record {
      same_length = (omega (arith, small.charges_many, small.stations_many), omega (arith, small.charges_many, small.credits_many));
      few = omega (arith, small.charges_many, small.customers_few);
      small = far_below n b.sizes f small;
    }

pub returns : goal.returns
returns g c =
    let m = g.R.SharingRule.meaning c.args.rule.now in
    let n = c.args.line in
    let b = frozen_book c.args.book.now in
    let us = c.args.units.now in
    let cs = c.args.costs.now in
    let law = c.in_ok-left.ensures.lawful in
    let f = figured c.bill.new.charges c.bill.new.stations c.bill.new.credits c.in_ok-left.left in
    let whole = book_bill m n b us cs (book_columns b) in
    let is : Ok f ≡ whole = accepted_is m n b us cs _ (search rules) (search rules) (search rules) (closed b us cs []) f (c.in_ok-left.ensures.answers law []) in
    let small = figures_small m law n b.sizes (take b.units us) (take b.costs cs) (book_columns b) f c.args.book.now.numbers.sizes.ok (counted_rows (short_tables b us cs) TableUnfit (bill m n b.sizes (take b.units us) (take b.costs cs) (book_columns b)) f is) in
    let short : SFits w64 c.in_ok-left.left.short = search rules in
    let over : SFits w64 c.in_ok-left.left.over = search rules in
    let stranded : SFits w64 c.in_ok-left.left.stranded = search rules in
    let put = put_rows c.args.out.now c.args.place n whole f c.bytes.result.now c.put_bytes.new.out c.put_bytes.result is (c.bytes.ensures ∙ c.push_line.ensures) c.put_bytes.ensures.answers c.put_bytes.ensures.out in
    record { answers = put.0; out = put.1; short = rows_have n whole f (λ rows. length rows ≤ most_rows n) is (rows_fit n b.sizes f small short over stranded); lawful = law; means = c.in_ok-left.ensures.means }
