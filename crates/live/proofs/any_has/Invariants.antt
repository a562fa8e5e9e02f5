-- `live::any_has` meets its contract: none of the functions that were asked has the key.
use Prim.Native.Nat.{◌≤◌}
use Rattle.gate_rules.specs.Gate.{gate}
use Rattle.gate_rules.specs.Scan.{functions_of}
use Rattle.live.specs.Live.{NoneHas}
use Rattle.live.proofs.any_has.Given as goal

abbrev pub invariant-loop-k : goal.invariant-loop-k
invariant-loop-k l = (l.fn.numbers.from ≤ l.k) × NoneHas l.bytes (functions_of gate l.fs.tree.now) l.fn.numbers.from l.k
