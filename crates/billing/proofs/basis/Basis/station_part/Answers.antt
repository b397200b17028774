use Rattle.std.proofs.Common.{◌≡◌, ℕ, ◌*◌, ◌^◌, true, [], ◌∷◌, map, length, Err, lit≤, sym, ap, ◌∙◌, subst, arith}
use Rattle.std.specs.List.{flat_map}
use Rattle.std.proofs.lemmas.List.Concat.{flat_map_single}
use Rattle.std.proofs.lemmas.Result.{err_from_is_err_and}
use Rattle.tariff.specs.declared.rows.Sizes.{Sizes}
use Rattle.tariff.specs.Refusals.{first_of, answer}
use Rattle.tariff.proofs.Refused.{ok_tells, err_tells}
use Rattle.lines.specs.declared.line.Line.{Line}
use Rattle.lines.specs.Lines.{zonal, dated}
use Rattle.lines.specs.Cells.{cell, axis, areas, days, whole_days, days_for}
use Rattle.bill_rules.specs.Bill.{too_large_at}
use Rattle.billing.specs.Parts.{CreditedOn, too_large_on}
use Rattle.billing.proofs.Crediting.{none_more, found_at, credited_as, credited_more}
use Rattle.billing.proofs.Walks.{axis_few, on_axis, turn, ended}
use Rattle.billing.proofs.basis.Basis.station_part.Goals as goal

-- the days of an area, met one by one on a line with days
whole_days_are : (l : Line) (z : Sizes) → dated l.span ≡ true → (a : ℕ) → flat_map (λ d. cell a d 0 ∷ []) (days l z) ≡ whole_days z a
whole_days_are l z is a = flat_map_single (λ d. cell a d 0) (days l z) ∙ ap (λ b. map (λ d. cell a d 0) (axis b z.days)) is

pub station_day-requires-clause-proper : goal.station_day-requires-clause-proper
station_day-requires-clause-proper g c =
    let b = c.args.self in
    let a = turn _ c.areas-area-items.result c.into_iter-area-iterator.result c.areas-area-items.ensures (cc) c.loop-area.yielded _ _ _ c.in-Some-area.area c.loop-area.yielded_by c.in-Some-area.is c.next.ensures.steps in
    let d = turn _ c.days-day-items.result c.into_iter-day-iterator.result c.days-day-items.ensures (cc) c.loop-day.yielded _ _ _ c.in-Some-day.day c.loop-day.yielded_by c.in-Some-day.is c.next-in-loop-day.ensures.steps in
    record { area_on = on_axis (zonal b.line.area) b.sizes.subzones _ _ a.before a.here; day_on = on_axis (dated b.line.span) b.sizes.days _ _ d.before d.here }

pub station_day-requires-clause-room : goal.station_day-requires-clause-room
station_day-requires-clause-room g c =
    let b = c.args.self in
    let a = turn _ c.areas-area-items.result c.into_iter-area-iterator.result c.areas-area-items.ensures (cc) c.loop-area.yielded _ _ _ c.in-Some-area.area c.loop-area.yielded_by c.in-Some-area.is c.next.ensures.steps in
    let d = turn _ c.days-day-items.result c.into_iter-day-iterator.result c.days-day-items.ensures (cc) c.loop-day.yielded _ _ _ c.in-Some-day.day c.loop-day.yielded_by c.in-Some-day.is c.next-in-loop-day.ensures.steps in
    let areas-few = axis_few (zonal b.line.area) b.sizes.subzones 32 b.sound.subzones_few (lit≤ tt) in
    let days-few = axis_few (dated b.line.span) b.sizes.days 31 b.sound.days_few (lit≤ tt) in (
      λ k h. omega (arith, a.before, d.before, c.loop-area.invariant.1.stations_rise k (omega arith), c.loop-day.invariant.1.stations_rise k (omega arith), c.requires.room.0 k (omega arith)),
      λ k h. omega (arith, a.before, d.before, c.loop-area.invariant.1.credits_rise k (omega arith), c.loop-day.invariant.1.credits_rise k (omega arith), c.requires.room.1 k (omega arith)),
    )

pub loop-day-preserved : goal.loop-day-preserved
loop-day-preserved g c =
    let b = c.args.self in
    let m = g.R.SharingRule.meaning c.args.rule.now in
    let none = (ok_tells (first_of (too_large_on m b (cell c.in-Some-area.area c.in-Some-day.day 0 ∷ []))) c.in_ok-station_day.field-0 tt c.in_ok-station_day.ensures.answers).0 in
    let here = subst (λ m. CreditedOn m b (cell c.in-Some-area.area c.in-Some-day.day 0 ∷ []) (2 ^ 31) c.loop-day.stations c.station_day.new.stations c.loop-day.credits c.station_day.new.credits) c.loop-day.invariant.2 c.in_ok-station_day.ensures.credited in (
      none_more (too_large_at m b.line b.sizes b.units.now b.costs.now) (λ d. cell c.in-Some-area.area d 0 ∷ []) c.loop-day.yielded c.in-Some-day.day c.loop-day.invariant.0 none,
      credited_more m b (λ d. cell c.in-Some-area.area d 0 ∷ []) (2 ^ 31) c.loop-day.yielded c.in-Some-day.day c.loop-area.stations c.loop-day.stations _ c.loop-area.credits c.loop-day.credits _ (omega arith) (omega arith)
          c.loop-day.invariant.1 here,
      c.station_day.ensures.means ∙ c.loop-day.invariant.2,
    )

pub loop-area-preserved : goal.loop-area-preserved
loop-area-preserved g c =
    let b = c.args.self in
    let m = g.R.SharingRule.meaning c.args.rule.now in
    let days-few = axis_few (dated b.line.span) b.sizes.days 31 b.sound.days_few (lit≤ tt) in
    let met = ended _ c.days-day-items.result c.into_iter-day-iterator.result c.days-day-items.ensures (cc) c.loop-day.yielded _ _ _ c.loop-day.yielded_by c.in-None-day.is c.next-in-loop-day.ensures.steps in
    let all = ap (flat_map (λ d. cell c.in-Some-area.area d 0 ∷ [])) met ∙ whole_days_are b.line b.sizes (b.sound.station_dated c.in-Some.station c.in-Some.is) c.in-Some-area.area in (
      none_more (too_large_at m b.line b.sizes b.units.now b.costs.now) (whole_days b.sizes) c.loop-area.yielded c.in-Some-area.area c.loop-area.invariant.0 (sym (ap (λ ds. first_of (too_large_on m b ds)) all) ∙ c.loop-day.invariant.0),
      credited_more m b (whole_days b.sizes) (2 ^ 36) c.loop-area.yielded c.in-Some-area.area c.args.stations.now c.loop-area.stations _ c.args.credits.now c.loop-area.credits _ (omega arith) (omega arith)
          c.loop-area.invariant.1 (credited_as m b _ _ (2 ^ 31 * length c.loop-day.yielded) _ _ _ _ _ all (omega (arith, ap length met)) c.loop-day.invariant.1),
      c.loop-day.invariant.2,
    )

pub returns-in_err-station_day-clause-answers : goal.returns-in_err-station_day-clause-answers
returns-in_err-station_day-clause-answers g c =
    let b = c.args.self in
    let m = g.R.SharingRule.meaning c.args.rule.now in
    let a = turn _ c.areas-area-items.result c.into_iter-area-iterator.result c.areas-area-items.ensures (cc) c.loop-area.yielded _ _ _ c.in-Some-area.area c.loop-area.yielded_by c.in-Some-area.is c.next.ensures.steps in
    let d = turn _ c.days-day-items.result c.into_iter-day-iterator.result c.days-day-items.ensures (cc) c.loop-day.yielded _ _ _ c.in-Some-day.day c.loop-day.yielded_by c.in-Some-day.is c.next-in-loop-day.ensures.steps in
    let p = err_from_is_err_and c.from_residual.result c.from_residual.ensures.1 in
    let e = c.in_err-station_day.field-0.0 in
    let some = err_tells (first_of (too_large_on m b (cell c.in-Some-area.area c.in-Some-day.day 0 ∷ []))) e tt c.in_err-station_day.ensures.answers in
    let on-day = found_at (too_large_at m b.line b.sizes b.units.now b.costs.now) (λ d. cell c.in-Some-area.area d 0 ∷ []) (days b.line b.sizes) c.loop-day.yielded _ c.in-Some-day.day e d.split c.loop-day.invariant.0 some in
    let all = whole_days_are b.line b.sizes (b.sound.station_dated c.in-Some.station c.in-Some.is) c.in-Some-area.area in
    let in-area = found_at (too_large_at m b.line b.sizes b.units.now b.costs.now) (whole_days b.sizes) (areas b.line b.sizes) c.loop-area.yielded _ c.in-Some-area.area e a.split c.loop-area.invariant.0 (sym (ap (λ ds. first_of (too_large_on m b ds)) all) ∙ on-day) in
    p.1 ∙ ap Err p.2 ∙ sym (ap (λ o. answer o tt) (ap (λ o. first_of (too_large_on m b (days_for o b.line b.sizes))) c.in-Some.is ∙ in-area))

pub returns-clause-answers : goal.returns-clause-answers
returns-clause-answers g c =
    let b = c.args.self in
    let m = g.R.SharingRule.meaning c.args.rule.now in
    let met = ended _ c.areas-area-items.result c.into_iter-area-iterator.result c.areas-area-items.ensures (cc) c.loop-area.yielded _ _ _ c.loop-area.yielded_by c.in-None.is c.next.ensures.steps in
    sym (ap (λ ds. answer (first_of (too_large_on m b ds)) tt) (ap (λ o. days_for o b.line b.sizes) c.in-Some.is ∙ sym (ap (flat_map (whole_days b.sizes)) met)) ∙ ap (λ o. answer o tt) c.loop-area.invariant.0)

pub returns-clause-credited : goal.returns-clause-credited
returns-clause-credited g c =
    let b = c.args.self in
    let m = g.R.SharingRule.meaning c.args.rule.now in
    let areas-few = axis_few (zonal b.line.area) b.sizes.subzones 32 b.sound.subzones_few (lit≤ tt) in
    let met = ended _ c.areas-area-items.result c.into_iter-area-iterator.result c.areas-area-items.ensures (cc) c.loop-area.yielded _ _ _ c.loop-area.yielded_by c.in-None.is c.next.ensures.steps in
    credited_as m b _ _ (2 ^ 36 * length c.loop-area.yielded) _ _ _ _ _ (ap (flat_map (whole_days b.sizes)) met ∙ sym (ap (λ o. days_for o b.line b.sizes) c.in-Some.is)) (omega (arith, ap length met)) c.loop-area.invariant.1
