use Rattle.std.proofs.Common.{◌≡◌, ◌≤◌, drop}
use Rattle.scanning.specs.Scanning.{on_digits, number_in}
use Rattle.scanning.proofs.number.Given as goal

abbrev pub invariant-loop-place : goal.invariant-loop-place
invariant-loop-place l = record {
  few : l.value ≤ l.most;
  same : number_in l.most l.text ≡ on_digits l.most l.value (drop l.place l.text);
}
