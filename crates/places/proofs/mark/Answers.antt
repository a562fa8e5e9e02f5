-- No function outside of the range has the key.
use Rattle.std.proofs.Common.{refl}
use Rattle.gate_rules.specs.Gate.{gate}
use Rattle.gate_rules.specs.Scan.{functions_of}
use Rattle.places.specs.Marking.{marked-end, marked_start}
use Rattle.places.proofs.mark.Goals as goal

pub loop-k-init : goal.loop-k-init
loop-k-init c =
    let a = c.args in
    let r = c.range-numbers in
    marked_start a.bytes.now a.place (functions_of gate a.fs.tree.now) a.places.now r.result.from r.result.to (r.ensures.others a.bytes.now refl)

pub returns : goal.returns
returns c =
    let a = c.args in
    let r = c.range-numbers in
    marked-end a.bytes.now a.place (functions_of gate a.fs.tree.now) a.places.now r.result.from r.result.to c.loop-k.k c.loop-k.places (r.ensures.others a.bytes.now refl)
    c.loop-k-test.false c.loop-k.invariant
