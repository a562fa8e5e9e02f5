-- As many keys were taken as are counted, and their lines have the bytes that were added up.
use Rattle.std.proofs.Common.{◌≡◌, ◌+◌, ap, subst, sym, ◌∙◌, length, take, arith}
use Rattle.std.proofs.Math.Option.{none, some}
use Rattle.text_rules.specs.Bytes.{kept}
use Rattle.gate_rules.specs.Baseline.{entries_of_lines}
use Rattle.gate_rules.specs.Check.{listed, stale}
use Rattle.gate_rules.specs.Gate.{gate}
use Rattle.gate_rules.specs.Scan.{functions_of}
use Rattle.baseline.specs.Reads.{key_text}
use Rattle.in_order.specs.StaleKeys.{behind, count_small, lines-small, stale_in}
use Rattle.listed_keys.specs.KeyLines.{key_lines, lines-most}
use Rattle.batches.proofs.Taking.{Reached, all-taken, batch_is, bytes_together, more, reached-more, reached-none}
use Rattle.batches.proofs.measure.Goals as goal

pub loop-keys-init : goal.loop-keys-init
unfolding listed
loop-keys-init c =
    let a = c.args in
    let none-yet = sym c.default-size.ensures.0 in
    record {
      reached = subst (Reached (entries_of_lines a.baseline.lines.now) (functions_of gate a.fs.tree.now) none) none-yet (reached-none _ _);
      bytes = c.default-size.ensures.1 ∙ ap (λ n. length (key_lines (take n (stale_in a.fs.tree.now a.baseline.lines.now)))) none-yet;
    }

pub plus-size-requires-clause-count_fits : goal.plus-size-requires-clause-count_fits
plus-size-requires-clause-count_fits c =
    let a = c.args in
    let es = entries_of_lines a.baseline.lines.now in
    let fs = functions_of gate a.fs.tree.now in
    let now = c.loop-keys in
    let last = key_text now.last in
    let ks = c.gather-keys.result.keys in
    let p = batch_is ks (kept (behind last) (stale es fs)) c.gather-keys.ensures (omega (arith, c.len-count.ensures.count, c.len-count.ensures.few)) in
    let m = more es fs last now.size.count now.invariant.reached ks p in
    omega (arith, m, c.len-count.ensures.count, count_small a.fs.tree.now a.fs.records.now a.baseline.lines.now a.fs.stand c.requires a.baseline.short)

pub plus-size-requires-clause-bytes_fit : goal.plus-size-requires-clause-bytes_fit
plus-size-requires-clause-bytes_fit c =
    let a = c.args in
    let es = entries_of_lines a.baseline.lines.now in
    let fs = functions_of gate a.fs.tree.now in
    let now = c.loop-keys in
    let last = key_text now.last in
    let ks = c.gather-keys.result.keys in
    let p = batch_is ks (kept (behind last) (stale es fs)) c.gather-keys.ensures (omega (arith, c.len-count.ensures.count, c.len-count.ensures.few)) in
    let both = bytes_together es fs last now.size.count now.invariant.reached ks p in
    omega (
      arith,
      both,
      now.invariant.bytes,
      c.batch_bytes-bytes.ensures,
      lines-most (stale es fs) (now.size.count + length ks),
      lines-small a.fs.tree.now a.fs.records.now a.baseline.lines.now a.fs.stand c.requires a.baseline.short,
    )

pub returns-then-count-lt-MOST : goal.returns-then-count-lt-MOST
returns-then-count-lt-MOST c =
    let a = c.args in
    let es = entries_of_lines a.baseline.lines.now in
    let fs = functions_of gate a.fs.tree.now in
    let now = c.loop-keys in
    let last = key_text now.last in
    let ks = c.gather-keys.result.keys in
    let p = batch_is ks (kept (behind last) (stale es fs)) c.gather-keys.ensures (omega (arith, c.len-count.ensures.count, c.len-count.ensures.few)) in
    let both = bytes_together es fs last now.size.count now.invariant.reached ks p in
    let size = c.plus-size.ensures in
    let all = all-taken es fs last now.size.count now.invariant.reached ks p (omega (arith, c.len-count.ensures.count, c.if-count-lt-MOST.true)) in
    let count : c.plus-size.result.count ≡ length (stale es fs) = omega (arith, size.count, c.len-count.ensures.count, all.1) in
    let bytes : c.plus-size.result.bytes ≡ length (key_lines (stale es fs)) =
    (omega (arith, size.bytes, now.invariant.bytes, c.batch_bytes-bytes.ensures, both)) ∙ ap (λ ks. length (key_lines ks)) all.0 in (
      count,
      bytes,
      omega (arith, count, count_small a.fs.tree.now a.fs.records.now a.baseline.lines.now a.fs.stand c.requires a.baseline.short),
      omega (arith, bytes, lines-small a.fs.tree.now a.fs.records.now a.baseline.lines.now a.fs.stand c.requires a.baseline.short),
    )

pub loop-keys-smaller : goal.loop-keys-smaller
loop-keys-smaller c =
    let a = c.args in
    let es = entries_of_lines a.baseline.lines.now in
    let fs = functions_of gate a.fs.tree.now in
    let now = c.loop-keys in
    let last = key_text now.last in
    let ks = c.gather-keys.result.keys in
    let p = batch_is ks (kept (behind last) (stale es fs)) c.gather-keys.ensures (omega (arith, c.len-count.ensures.count, c.len-count.ensures.few)) in
    let m = more es fs last now.size.count now.invariant.reached ks p in
    omega (arith, m, c.len-count.ensures.count, c.if-count-lt-MOST.false, c.plus-size.ensures.count)

pub loop-keys-preserved : goal.loop-keys-preserved
loop-keys-preserved c =
    let a = c.args in
    let es = entries_of_lines a.baseline.lines.now in
    let fs = functions_of gate a.fs.tree.now in
    let now = c.loop-keys in
    let last = key_text now.last in
    let ks = c.gather-keys.result.keys in
    let p = batch_is ks (kept (behind last) (stale es fs)) c.gather-keys.ensures (omega (arith, c.len-count.ensures.count, c.len-count.ensures.few)) in
    let both = bytes_together es fs last now.size.count now.invariant.reached ks p in
    let size = c.plus-size.ensures in
    let count : c.plus-size.result.count ≡ now.size.count + length ks = omega (arith, size.count, c.len-count.ensures.count) in
    let next = reached-more es fs last now.size.count now.invariant.reached ks p (omega (arith, c.len-count.ensures.count, c.if-count-lt-MOST.false)) c.key.result.now c.key.ensures.bytes in
    record {
      reached = subst (Reached es fs (some c.key.result.now)) (sym count) next;
      bytes =
          omega (arith, size.bytes, now.invariant.bytes, c.batch_bytes-bytes.ensures, both, ap (λ n. length (key_lines (take n (stale es fs)))) count);
    }
