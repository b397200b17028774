use Rattle.std.proofs.Common.{◌≡◌, ℕ, List, length, get_or, replicate, ℤ, pos, ◌+ℤ◌, ◌-ℤ◌, lit≤, Ok, sum_by, sum, sym, ap, ◌∙◌, subst, zero-add, arith}
use Rattle.std.proofs.lemmas.Int.{ints}
use Rattle.std.proofs.lemmas.List.{get_or-replicate, length-replicate}
use Rattle.tariff.specs.Refusals.{first_of, answer}
use Rattle.tariff.proofs.Refused.{ok_tells}
use Rattle.lines.specs.Cells.{cells, station_days}
use Rattle.bill_rules.specs.declared.Remainders.{Remainders}
use Rattle.bill_rules.specs.Bill.{station_of, credit_of, figures, too_large, told, column_after}
use Rattle.bill_rules.proofs.Balance.{charges_balance, credits_balance}
use Rattle.billing.specs.Work.{Adds, Upto, charged_in}
use Rattle.billing.proofs.Adding.{front_zeros, filled, raised}
use Rattle.billing.proofs.Soundness.{line_costs_within}
use Rattle.billing.proofs.basis.Basis.fill_columns.Goals as goal

zeros : (n : ℕ) (column : List ℕ) → column ≡ replicate n 0 → Upto column 0
zeros n column is k h = omega (arith, ap (λ xs. get_or xs k 0) is ∙ get_or-replicate n k 0 0 (omega (arith, ap length is ∙ length-replicate n 0)))

left : (a b c x y z : ℤ) → a ≡ x → b ≡ y → c ≡ z → ◌≡◌ {A = Remainders} (record { short = a; over = b; stranded = c }) (record { short = x; over = y; stranded = z })
left a b c x y z p q r = cc

short_is : (all stranded charged A S C : ℕ) (short : ℤ) → all ≡ A → stranded ≡ S → charged ≡ C → (pos C +ℤ short) +ℤ pos S ≡ pos A → (pos all -ℤ pos stranded) -ℤ pos charged ≡ short
short_is all stranded charged A S C short p q r e = omega (arith, ints)

over_is : (stations credits S C : ℕ) (over : ℤ) → stations ≡ S → credits ≡ C → pos C +ℤ over ≡ pos S → pos stations -ℤ pos credits ≡ over
over_is stations credits S C over p q e = omega (arith, ints)

pub station_part-requires-clause-room : goal.station_part-requires-clause-room
station_part-requires-clause-room g c = (front_zeros c.from-customers.result 256, front_zeros c.from-customers.result 256)

pub cents-requires-2-clause-small : goal.cents-requires-2-clause-small
cents-requires-2-clause-small g c = raised _ c.station_part.new.stations c.copy_from_slice.new.self _ _ c.copy_from_slice.ensures.after (lit≤ tt) c.station_part.auto.stations (front_zeros c.from-customers.result 256) c.in_ok-station_part.ensures.credited.stations_rise

pub cents-requires-3-clause-small : goal.cents-requires-3-clause-small
cents-requires-3-clause-small g c = raised _ c.station_part.new.credits c.copy_from_slice-2.new.self _ _ c.copy_from_slice-2.ensures.after (lit≤ tt) c.station_part.auto.credits (front_zeros c.from-customers.result 256) c.in_ok-station_part.ensures.credited.credits_rise

pub remainders-requires-clause-costs : goal.remainders-requires-clause-costs
remainders-requires-clause-costs g c =
    let b = c.args.self in
    (omega (arith, c.all_costs.ensures, line_costs_within b.line b.sizes b.units.now b.costs.now b.sound), omega (arith, c.charge_line-stranded.ensures.charged.stranded_rises))

pub returns : goal.returns
returns g c =
    let b = c.args.self in
    let m = g.R.SharingRule.meaning c.args.rule.now in
    let law = g.met.R.SharingRule.lawful c.args.rule.now in
    let l = b.line in
    let z = b.sizes in
    let us = b.units.now in
    let cs = b.costs.now in
    let f = figures m l z us cs in
    let none = (ok_tells (first_of (too_large m l z us cs)) c.in_ok-station_part.field-0 tt c.in_ok-station_part.ensures.answers).0 in
    let credited = c.in_ok-station_part.ensures.credited in
    let stations-are : c.copy_from_slice.new.self ≡ f.stations =
    c.copy_from_slice.ensures.after
    ∙ filled _ c.station_part.new.stations z.customers (λ k. sum_by (station_of m l z us cs k) (station_days l z)) c.station_part.auto.stations (sym (ap length c.copy_from_slice.ensures.after) ∙ omega (arith, c.requires.1)) (front_zeros c.from-customers.result 256) credited.stations_added in
    let credits-are : c.copy_from_slice-2.new.self ≡ f.credits =
    c.copy_from_slice-2.ensures.after
    ∙ filled _ c.station_part.new.credits z.customers (λ k. sum_by (credit_of m l z us cs k) (station_days l z)) c.station_part.auto.credits (sym (ap length c.copy_from_slice-2.ensures.after) ∙ omega (arith, c.requires.2)) (front_zeros c.from-customers.result 256) credited.credits_added in
    let blank = zeros (length c.args.charges.now) c.fill.new.self (c.fill.ensures.after (λ y e. e)) in
    let charged = subst (λ m. Adds c.fill.new.self c.charge_line-stranded.new.charges (charged_in m l z us cs (cells l z))) c.station_part.ensures.means c.charge_line-stranded.ensures.charged.charges_added in
    let charges-are : c.charge_line-stranded.new.charges ≡ f.charges =
    filled c.fill.new.self c.charge_line-stranded.new.charges z.customers (charged_in m l z us cs (cells l z)) (omega arith) (omega (arith, c.requires.0)) blank charged in
    let stranded-is = c.charge_line-stranded.ensures.charged.stranded_added ∙ zero-add _ in
    let result : c.remainders.result ≡ record { short = f.short; over = f.over; stranded = f.stranded } =
    c.remainders.ensures
    ∙ left _ _ _ _ _ _
    (short_is _ _ _ _ _ _ f.short c.all_costs.ensures stranded-is (c.cents.ensures.value ∙ ap sum charges-are) (charges_balance m law l z us cs b.sound.costs_once))
    (over_is _ _ _ _ f.over (c.cents-2.ensures.value ∙ ap sum stations-are) (c.cents-3.ensures.value ∙ ap sum credits-are) (credits_balance m law l z us cs))
    (ap pos stranded-is) in
    record {
      answers = ap Ok result ∙ sym (ap (λ o. told (answer o f)) none);
      charges = charges-are ∙ sym (ap (λ o. column_after (answer o f) (λ f. f.charges) c.args.charges.now) none);
      stations = stations-are ∙ sym (ap (λ o. column_after (answer o f) (λ f. f.stations) c.args.stations.now) none);
      credits = credits-are ∙ sym (ap (λ o. column_after (answer o f) (λ f. f.credits) c.args.credits.now) none);
      means = c.charge_line-stranded.ensures.means ∙ c.station_part.ensures.means;
    }
