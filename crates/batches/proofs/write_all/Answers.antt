-- The lines of the batches stand one behind the other, up to the batch that leaves a place free.
use Rattle.std.proofs.Common.{arith}
use Rattle.text_rules.specs.Bytes.{kept}
use Rattle.gate_rules.specs.Baseline.{entries_of_lines}
use Rattle.gate_rules.specs.Check.{stale}
use Rattle.gate_rules.specs.Gate.{gate}
use Rattle.gate_rules.specs.Scan.{functions_of}
use Rattle.baseline.specs.Reads.{key_text}
use Rattle.in_order.specs.StaleKeys.{behind}
use Rattle.batches.proofs.Taking.{batch_is}
use Rattle.batches.proofs.Writing.{batch_room, batches_all, batches_further, batches_more, batches_none}
use Rattle.batches.proofs.write_all.Goals as goal

pub loop-keys-init : goal.loop-keys-init
loop-keys-init c = batches_none _ _ _ c.requires

pub write_batch-requires : goal.write_batch-requires
write_batch-requires c =
    let a = c.args in
    let es = entries_of_lines a.baseline.lines.now in
    let fs = functions_of gate a.fs.tree.now in
    let now = c.loop-keys in
    let last = key_text now.last in
    let ks = c.gather-keys.result.keys in
    let p = batch_is ks (kept (behind last) (stale es fs)) c.gather-keys.ensures (omega (arith, c.len-count.ensures.count, c.len-count.ensures.few)) in
    batch_room es fs a.w.now now.w last now.invariant ks p

pub returns-then-count-lt-MOST : goal.returns-then-count-lt-MOST
returns-then-count-lt-MOST c =
    let a = c.args in
    let es = entries_of_lines a.baseline.lines.now in
    let fs = functions_of gate a.fs.tree.now in
    let now = c.loop-keys in
    let last = key_text now.last in
    let ks = c.gather-keys.result.keys in
    let p = batch_is ks (kept (behind last) (stale es fs)) c.gather-keys.ensures (omega (arith, c.len-count.ensures.count, c.len-count.ensures.few)) in
    batches_all es fs a.w.now now.w last now.invariant ks p c.write_batch.new.w c.write_batch.ensures (omega (arith, c.len-count.ensures.count, c.if-count-lt-MOST.true))

pub loop-keys-smaller : goal.loop-keys-smaller
loop-keys-smaller c =
    let a = c.args in
    let es = entries_of_lines a.baseline.lines.now in
    let fs = functions_of gate a.fs.tree.now in
    let now = c.loop-keys in
    let last = key_text now.last in
    let ks = c.gather-keys.result.keys in
    let p = batch_is ks (kept (behind last) (stale es fs)) c.gather-keys.ensures (omega (arith, c.len-count.ensures.count, c.len-count.ensures.few)) in
    omega (arith, batches_further es fs a.w.now now.w last now.invariant ks p c.write_batch.new.w c.write_batch.ensures (omega (arith, c.len-count.ensures.count, c.if-count-lt-MOST.false)))

pub loop-keys-preserved : goal.loop-keys-preserved
loop-keys-preserved c =
    let a = c.args in
    let es = entries_of_lines a.baseline.lines.now in
    let fs = functions_of gate a.fs.tree.now in
    let now = c.loop-keys in
    let last = key_text now.last in
    let ks = c.gather-keys.result.keys in
    let p = batch_is ks (kept (behind last) (stale es fs)) c.gather-keys.ensures (omega (arith, c.len-count.ensures.count, c.len-count.ensures.few)) in
    batches_more es fs a.w.now now.w last now.invariant ks p c.write_batch.new.w c.write_batch.ensures (omega (arith, c.len-count.ensures.count, c.if-count-lt-MOST.false))
    c.key.result.now c.key.ensures.bytes
