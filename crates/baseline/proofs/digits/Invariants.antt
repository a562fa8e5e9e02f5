-- The digits ahead go on from the number that those behind made.
use Rattle.std.proofs.Common.{◌≡◌, ◌≤◌, drop}
use Rattle.text_rules.specs.Decimal.{numeral}
use Rattle.baseline.proofs.Numbers.{numeral_from}
use Rattle.baseline.proofs.digits.Given as goal

abbrev pub invariant-loop-b : goal.invariant-loop-b
invariant-loop-b l = record {
  within : l.n ≤ l.limit;
  same : numeral_from l.limit l.n (drop l.b-index l.s) ≡ numeral l.limit l.s;
}
