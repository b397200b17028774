use Rattle.std.proofs.Common.{arith}
use Rattle.line_rows.proofs.Lengths.{column_fits}
use Rattle.line_rows.proofs.columns.Columns.totals.Goals as goal

pub overflow_cast-result : goal.overflow_cast-result
overflow_cast-result c = let s = c.args.self.now in column_fits s.charges.now c.column_total.result s.few s.small.0 c.column_total.ensures.value

pub overflow_cast-result-2 : goal.overflow_cast-result-2
overflow_cast-result-2 c = let s = c.args.self.now in column_fits s.stations.now c.column_total-2.result (omega (arith, s.few, s.same_length.0)) s.small.1 c.column_total-2.ensures.value

pub overflow_cast-result-3 : goal.overflow_cast-result-3
overflow_cast-result-3 c = let s = c.args.self.now in column_fits s.credits.now c.column_total-3.result (omega (arith, s.few, s.same_length.1)) s.small.2 c.column_total-3.ensures.value
