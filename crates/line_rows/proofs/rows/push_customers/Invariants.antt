use Rattle.std.proofs.Common.{◌≡◌, ◌*◌, ◌≤◌, length}
use Rattle.std.specs.List.{range_with_len, flat_map}
use Rattle.line_rows.specs.Rows.{customer_row}
use Rattle.line_rows.specs.Writing.{most_row}
use Rattle.line_rows.proofs.rows.push_customers.Given as goal

abbrev pub invariant-loop-customer : goal.invariant-loop-customer
invariant-loop-customer l =
    (goal.iterator-loop-customer).can_next l.customer-iterator
    × (goal.iterator-loop-customer).is_finite l.customer-iterator
    × (l.text ≡ flat_map (customer_row l.line l.columns.charges.now l.columns.stations.now l.columns.credits.now) (range_with_len 0 (length l.yielded)))
    × (length l.text ≤ most_row * length l.yielded)
