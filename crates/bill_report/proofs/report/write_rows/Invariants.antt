use Rattle.std.proofs.Common.{◌≡◌, ◌++◌, ◌≤◌, length, drop, string_bytes}
use Rattle.std.specs.List.{range_with_len, flat_map}
use Rattle.std.specs.Slice.Iter.{iter_rest}
use Rattle.std.specs.Iterator.Adapters.{enumerate_source, enumerate_count, zip_first, zip_second}
use Rattle.bill_report.specs.Report.{row_of}
use Rattle.bill_report.proofs.report.write_rows.Given as goal

abbrev pub invariant-loop-customer : goal.invariant-loop-customer
invariant-loop-customer l =
    let it = l.customer-iterator in
    let n = enumerate_count it in
    let f = l.figured in
    record {
      within : n ≤ length f.charges.items;
      charges : iter_rest (zip_first (zip_first (enumerate_source it))) ≡ drop n f.charges.items;
      stations : iter_rest (zip_second (zip_first (enumerate_source it))) ≡ drop n f.stations.items;
      credits : iter_rest (zip_second (enumerate_source it)) ≡ drop n f.credits.items;
      written : string_bytes l.text ≡ string_bytes l.initial.text ++ flat_map (row_of f.charges.items f.stations.items f.credits.items) (range_with_len 0 n);
    }
