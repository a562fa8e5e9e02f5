-- The bytes of the lines of the keys in front are added up.
use Rattle.std.proofs.Common.{refl, ap, length, arith}
use Rattle.gate_rules.specs.Check.{listed}
use Rattle.batches.proofs.Taking.{bytes_next}
use Rattle.batches.proofs.batch_bytes.Goals as goal

pub loop-i-init : goal.loop-i-init
unfolding listed
loop-i-init c = (refl, omega arith)

pub loop-i-preserved : goal.loop-i-preserved
loop-i-preserved c =
    let ks = c.args.keys.now.keys in
    let size = ap length c.key.ensures.bytes in
    (omega (arith, c.loop-i.invariant.0, size, bytes_next ks c.loop-i.i (omega (arith, c.len-i-end.ensures.count, c.loop-i-test.true))), omega (arith, c.loop-i.invariant.1, c.key.ensures.short))
