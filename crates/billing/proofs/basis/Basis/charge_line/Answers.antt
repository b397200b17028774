use Rattle.std.proofs.Common.{◌*◌, ◌^◌, [], ◌∷◌, length, lit≤, sym, refl, ap, ◌∙◌, subst, arith}
use Rattle.std.specs.List.{flat_map}
use Rattle.std.proofs.lemmas.List.Concat.{flat_map_single}
use Rattle.tariff.specs.Limits.{hours_of_day}
use Rattle.lines.specs.Lines.{zonal, dated, timed}
use Rattle.lines.specs.Cells.{cell, hours, hour_cells, day_cells}
use Rattle.billing.specs.Parts.{Charged}
use Rattle.billing.proofs.Charging.{charged_idle, charged_more, charged_onto, charged_as}
use Rattle.billing.proofs.Walks.{axis_few, on_axis, turn, ended}
use Rattle.billing.proofs.basis.Basis.charge_line.Goals as goal

pub pool-requires : goal.pool-requires
pool-requires g c =
    let b = c.args.self in
    let a = turn _ c.areas-area-items.result c.into_iter-area-iterator.result c.areas-area-items.ensures (cc) c.loop-area.yielded _ _ _ c.in-Some.area c.loop-area.yielded_by c.in-Some.is c.next.ensures.steps in
    let d = turn _ c.days-day-items.result c.into_iter-day-iterator.result c.days-day-items.ensures (cc) c.loop-day.yielded _ _ _ c.in-Some-day.day c.loop-day.yielded_by c.in-Some-day.is c.next-in-loop-day.ensures.steps in
    b.sound.costs_fit c.in-Some.area c.in-Some-day.day 0 (record { area_on = on_axis (zonal b.line.area) b.sizes.subzones _ _ a.before a.here; day_on = on_axis (dated b.line.span) b.sizes.days _ _ d.before d.here })

pub charge_cell-stranded-requires-clause-proper : goal.charge_cell-stranded-requires-clause-proper
charge_cell-stranded-requires-clause-proper g c =
    let b = c.args.self in
    let a = turn _ c.areas-area-items.result c.into_iter-area-iterator.result c.areas-area-items.ensures (cc) c.loop-area.yielded _ _ _ c.in-Some.area c.loop-area.yielded_by c.in-Some.is c.next.ensures.steps in
    let d = turn _ c.days-day-items.result c.into_iter-day-iterator.result c.days-day-items.ensures (cc) c.loop-day.yielded _ _ _ c.in-Some-day.day c.loop-day.yielded_by c.in-Some-day.is c.next-in-loop-day.ensures.steps in
    record { area_on = on_axis (zonal b.line.area) b.sizes.subzones _ _ a.before a.here; day_on = on_axis (dated b.line.span) b.sizes.days _ _ d.before d.here }

pub charge_cell-stranded-requires-clause-room : goal.charge_cell-stranded-requires-clause-room
charge_cell-stranded-requires-clause-room g c k lt =
    let b = c.args.self in
    let a = turn _ c.areas-area-items.result c.into_iter-area-iterator.result c.areas-area-items.ensures (cc) c.loop-area.yielded _ _ _ c.in-Some.area c.loop-area.yielded_by c.in-Some.is c.next.ensures.steps in
    let d = turn _ c.days-day-items.result c.into_iter-day-iterator.result c.days-day-items.ensures (cc) c.loop-day.yielded _ _ _ c.in-Some-day.day c.loop-day.yielded_by c.in-Some-day.is c.next-in-loop-day.ensures.steps in
    let h = turn _ c.hours-hour-items.result c.into_iter-hour-iterator.result c.hours-hour-items.ensures (cc) c.loop-hour.yielded _ _ _ c.in-Some-hour.hour c.loop-hour.yielded_by c.in-Some-hour.is c.next-in-loop-hour.ensures.steps in
    let areas-few = axis_few (zonal b.line.area) b.sizes.subzones 32 b.sound.subzones_few (lit≤ tt) in
    let days-few = axis_few (dated b.line.span) b.sizes.days 31 b.sound.days_few (lit≤ tt) in
    let hours-few = axis_few (timed b.line.span) hours_of_day 24 (lit≤ tt) (lit≤ tt) in
    omega (arith, a.before, d.before, h.before, c.loop-area.invariant.0.charges_rise k (omega arith), c.loop-day.invariant.0.charges_rise k (omega arith), c.loop-hour.invariant.0.charges_rise k (omega arith), c.requires.room k (omega arith))

pub overflow_add-stranded : goal.overflow_add-stranded
overflow_add-stranded g c =
    let b = c.args.self in
    let a = turn _ c.areas-area-items.result c.into_iter-area-iterator.result c.areas-area-items.ensures (cc) c.loop-area.yielded _ _ _ c.in-Some.area c.loop-area.yielded_by c.in-Some.is c.next.ensures.steps in
    let d = turn _ c.days-day-items.result c.into_iter-day-iterator.result c.days-day-items.ensures (cc) c.loop-day.yielded _ _ _ c.in-Some-day.day c.loop-day.yielded_by c.in-Some-day.is c.next-in-loop-day.ensures.steps in
    let h = turn _ c.hours-hour-items.result c.into_iter-hour-iterator.result c.hours-hour-items.ensures (cc) c.loop-hour.yielded _ _ _ c.in-Some-hour.hour c.loop-hour.yielded_by c.in-Some-hour.is c.next-in-loop-hour.ensures.steps in
    let areas-few = axis_few (zonal b.line.area) b.sizes.subzones 32 b.sound.subzones_few (lit≤ tt) in
    let days-few = axis_few (dated b.line.span) b.sizes.days 31 b.sound.days_few (lit≤ tt) in
    let hours-few = axis_few (timed b.line.span) hours_of_day 24 (lit≤ tt) (lit≤ tt) in
    omega (arith, a.before, d.before, h.before, c.loop-area.invariant.0.stranded_rises, c.loop-day.invariant.0.stranded_rises, c.loop-hour.invariant.0.stranded_rises, c.charge_cell-stranded.ensures.charged.stranded_rises)

pub loop-hour-preserved : goal.loop-hour-preserved
loop-hour-preserved g c =
    let b = c.args.self in
    let m = g.R.SharingRule.meaning c.args.rule.now in
    let here = subst (λ m. Charged m b (cell c.in-Some.area c.in-Some-day.day c.in-Some-hour.hour ∷ []) (2 ^ 31) 0 c.charge_cell-stranded.result c.loop-hour.charges c.charge_cell-stranded.new.charges) c.loop-hour.invariant.1 c.charge_cell-stranded.ensures.charged in (
      charged_more m b (λ h. cell c.in-Some.area c.in-Some-day.day h ∷ []) (2 ^ 31) c.loop-hour.yielded c.in-Some-hour.hour c.loop-day.stranded c.loop-hour.stranded _ c.loop-day.charges c.loop-hour.charges _ (omega arith)
          c.loop-hour.invariant.0 (charged_onto m b _ _ c.loop-hour.stranded _ _ _ here),
      c.charge_cell-stranded.ensures.means ∙ c.loop-hour.invariant.1,
    )

pub loop-day-preserved-then-pool-eq0 : goal.loop-day-preserved-then-pool-eq0
loop-day-preserved-then-pool-eq0 g c =
    let b = c.args.self in
    let m = g.R.SharingRule.meaning c.args.rule.now in
    let idle = charged_idle m (g.met.R.SharingRule.lawful c.args.rule.now) b c.loop-day.charges (omega (arith, c.requires.places)) c.in-Some.area c.in-Some-day.day c.loop-day.stranded (sym c.pool.ensures ∙ c.if-pool-eq0.true) in (
      charged_more m b (hour_cells b.line c.in-Some.area) (2 ^ 36) c.loop-day.yielded c.in-Some-day.day c.loop-area.stranded c.loop-day.stranded _ c.loop-area.charges c.loop-day.charges _ (omega arith)
          c.loop-day.invariant.0 (charged_as m b _ _ 0 _ _ _ _ _ refl (omega arith) idle),
      c.loop-day.invariant.1,
    )

pub loop-day-preserved : goal.loop-day-preserved
loop-day-preserved g c =
    let b = c.args.self in
    let m = g.R.SharingRule.meaning c.args.rule.now in
    let hours-few = axis_few (timed b.line.span) hours_of_day 24 (lit≤ tt) (lit≤ tt) in
    let met = ended _ c.hours-hour-items.result c.into_iter-hour-iterator.result c.hours-hour-items.ensures (cc) c.loop-hour.yielded _ _ _ c.loop-hour.yielded_by c.in-None-hour.is c.next-in-loop-hour.ensures.steps in
    let all = ap (λ hs. flat_map (λ h. cell c.in-Some.area c.in-Some-day.day h ∷ []) hs) met ∙ flat_map_single (cell c.in-Some.area c.in-Some-day.day) (hours b.line) in (
      charged_more m b (hour_cells b.line c.in-Some.area) (2 ^ 36) c.loop-day.yielded c.in-Some-day.day c.loop-area.stranded c.loop-day.stranded _ c.loop-area.charges c.loop-day.charges _ (omega arith)
          c.loop-day.invariant.0 (charged_as m b _ _ (2 ^ 31 * length c.loop-hour.yielded) _ _ _ _ _ all (omega (arith, ap length met)) c.loop-hour.invariant.0),
      c.loop-hour.invariant.1,
    )

pub loop-area-preserved : goal.loop-area-preserved
loop-area-preserved g c =
    let b = c.args.self in
    let m = g.R.SharingRule.meaning c.args.rule.now in
    let days-few = axis_few (dated b.line.span) b.sizes.days 31 b.sound.days_few (lit≤ tt) in
    let met = ended _ c.days-day-items.result c.into_iter-day-iterator.result c.days-day-items.ensures (cc) c.loop-day.yielded _ _ _ c.loop-day.yielded_by c.in-None-day.is c.next-in-loop-day.ensures.steps in (
      charged_more m b (day_cells b.line b.sizes) (2 ^ 41) c.loop-area.yielded c.in-Some.area 0 c.loop-area.stranded _ c.args.charges.now c.loop-area.charges _ (omega arith)
          c.loop-area.invariant.0 (charged_as m b _ _ (2 ^ 36 * length c.loop-day.yielded) _ _ _ _ _ (ap (flat_map (hour_cells b.line c.in-Some.area)) met) (omega (arith, ap length met)) c.loop-day.invariant.0),
      c.loop-day.invariant.1,
    )

pub returns-clause-charged : goal.returns-clause-charged
returns-clause-charged g c =
    let b = c.args.self in
    let m = g.R.SharingRule.meaning c.args.rule.now in
    let areas-few = axis_few (zonal b.line.area) b.sizes.subzones 32 b.sound.subzones_few (lit≤ tt) in
    let met = ended _ c.areas-area-items.result c.into_iter-area-iterator.result c.areas-area-items.ensures (cc) c.loop-area.yielded _ _ _ c.loop-area.yielded_by c.in-None.is c.next.ensures.steps in
    charged_as m b _ _ (2 ^ 41 * length c.loop-area.yielded) _ 0 _ c.args.charges.now _ (ap (flat_map (day_cells b.line b.sizes)) met) (omega (arith, ap length met)) c.loop-area.invariant.0
