-- Each line gives its place to the functions that it lists, so the last of several stays.
use Rattle.std.proofs.Common.{◌≡◌}
use Rattle.gate_rules.specs.Gate.{gate}
use Rattle.gate_rules.specs.Scan.{functions_of}
use Rattle.places.specs.Marking.{Seen}
use Rattle.places.proofs.fill.Given as goal

abbrev pub invariant-loop-line : goal.invariant-loop-line
invariant-loop-line l =
    let s = l.baseline.lines.now in
    (l.line-iterator.text.now ≡ s) × Seen s (functions_of gate l.fs.tree.now) l.line-iterator.at l.places
