-- The keys that are held and those of the lines to come give the same keys at every line.
use Rattle.std.proofs.Common.{◌≡◌}
use Rattle.gate_rules.specs.Gate.{gate}
use Rattle.gate_rules.specs.Scan.{functions_of}
use Rattle.baseline.specs.Reads.{key_text}
use Rattle.batches.proofs.Lines.{Upto}
use Rattle.batches.proofs.gather.Given as goal

abbrev pub invariant-loop-line : goal.invariant-loop-line
invariant-loop-line l =
    let s = l.baseline.lines.now in
    (l.line-iterator.text.now ≡ s) × (l.keys.lines ≡ s) × Upto (functions_of gate l.fs.tree.now) (key_text l.last) s l.keys.keys l.line-iterator.at
