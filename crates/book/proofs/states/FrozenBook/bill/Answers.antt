use Rattle.std.proofs.Common.{◌-◌, ltb, length, Result, sym, refl, ap, ◌∙◌, arith}
use Rattle.std.proofs.lemmas.Bool.{or_parts, ltb-false}
use Rattle.tariff.specs.declared.refusal.Refusal.{Refusal}
use Rattle.bill_rules.specs.Bill.{Figures, Lengths, told, column_after}
use Rattle.book_rules.specs.Run.{Answer, closed, told_bill}
use Rattle.book.specs.Shown.{frozen_book}
use Rattle.book.proofs.Bills.{counted_bill, short_bill, told_figures_is}
use Rattle.book.proofs.states.FrozenBook.bill.Goals as goal

pub returns-then-outnumber : goal.returns-then-outnumber
returns-then-outnumber g c =
    let m = g.R.SharingRule.meaning c.args.rule.now in
    let p : Lengths = record { charges = length c.args.charges.now; stations = length c.args.stations.now; credits = length c.args.credits.now } in
    let short = short_bill m c.args.line (frozen_book c.args.self.now) c.args.units.now c.args.costs.now p c.if-outnumber.ensures in
    record {
      answers = λ law marks. ap (λ (r : Result Figures Refusal). record { state = closed (frozen_book c.args.self.now) c.args.units.now c.args.costs.now marks; answer = told_bill r }) short;
      charges = sym (ap (λ (r : Result Figures Refusal). column_after r (λ f. f.charges) c.args.charges.now) short);
      stations = sym (ap (λ (r : Result Figures Refusal). column_after r (λ f. f.stations) c.args.stations.now) short);
      credits = sym (ap (λ (r : Result Figures Refusal). column_after r (λ f. f.credits) c.args.credits.now) short);
      lawful = g.met.R.SharingRule.lawful c.args.rule.now;
      means = refl;
    }

pub returns : goal.returns
returns g c =
    let m = g.R.SharingRule.meaning c.args.rule.now in
    let p : Lengths = record { charges = length c.args.charges.now; stations = length c.args.stations.now; credits = length c.args.credits.now } in
    let long = or_parts (ltb (length c.args.units.now) c.args.self.now.numbers.units) (ltb (length c.args.costs.now) c.args.self.now.numbers.costs) (sym c.if-outnumber.ensures) in
    let same = counted_bill m c.args.line (frozen_book c.args.self.now) c.args.units.now c.args.costs.now p (c.args.self.now.numbers.units - 0) (c.args.self.now.numbers.costs - 0) (ltb-false _ _ long.0) (ltb-false _ _ long.1) (omega arith) (omega arith) in
    let charges = c.line_bill.ensures.charges ∙ ap (λ (r : Result Figures Refusal). column_after r (λ f. f.charges) c.args.charges.now) same in
    let stations = c.line_bill.ensures.stations ∙ ap (λ (r : Result Figures Refusal). column_after r (λ f. f.stations) c.args.stations.now) same in
    let credits = c.line_bill.ensures.credits ∙ ap (λ (r : Result Figures Refusal). column_after r (λ f. f.credits) c.args.credits.now) same in
    let answers = c.line_bill.ensures.answers ∙ ap told same in
    record {
      answers = λ law marks. ap (λ (a : Answer). record { state = closed (frozen_book c.args.self.now) c.args.units.now c.args.costs.now marks; answer = a })
          (told_figures_is _ c.line_bill.result c.line_bill.new.charges c.line_bill.new.stations c.line_bill.new.credits c.args.charges.now c.args.stations.now c.args.credits.now answers charges stations credits);
      charges = charges;
      stations = stations;
      credits = credits;
      lawful = g.met.R.SharingRule.lawful c.args.rule.now;
      means = c.line_bill.ensures.means;
    }
