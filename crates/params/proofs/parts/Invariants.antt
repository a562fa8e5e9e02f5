-- Each turn is one step of the count, so the count over the rest is the count over the whole.
use Prim.Native.Nat.{◌+◌, ◌≤◌}
use mathlib.Core.Path.{◌≡◌}
use lib.ListN.{drop}
use Rattle.source_rules.specs.Parameters.{parts_from}
use Rattle.params.proofs.parts.Given as goal

abbrev pub invariant-loop-b : goal.invariant-loop-b
invariant-loop-b l = record {
  few : l.n ≤ l.b-index + 1;
  few_opened : l.opened ≤ l.b-index;
  few_closed : l.closed ≤ l.b-index;
  counted : parts_from l.n l.opened l.closed (drop l.b-index l.s) ≡ parts_from 1 0 0 l.s;
}
