-- At each turn the functions in front of k have their places.
use Rattle.gate_rules.specs.Gate.{gate}
use Rattle.gate_rules.specs.Scan.{functions_of}
use Rattle.places.specs.Marking.{Marked}
use Rattle.places.proofs.mark.Given as goal

abbrev pub invariant-loop-k : goal.invariant-loop-k
invariant-loop-k l = Marked l.bytes l.place (functions_of gate l.fs.tree.now) l.initial.places l.k l.places
