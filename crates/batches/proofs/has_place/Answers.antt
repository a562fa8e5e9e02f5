-- A key that does not stand before the last of 8,192 changes none of these.
use Rattle.std.proofs.Common.{arith, ap, sym, ◌∙◌}
use Rattle.text_rules.specs.Bytes.{before}
use Rattle.sorted_keys.specs.Insert.{insert-past}
use Rattle.batches.proofs.has_place.Goals as goal

pub returns : goal.returns
returns c e =
    let a = c.args in
    let ks = a.keys.now.keys in
    let k = a.bytes.now in
    insert-past k ks 8191 c.len.ensures.rising (omega (arith, c.len.ensures.count, c.len.ensures.few, c.if-len-lt-MOST.false)) (sym (c.before-2.ensures ∙ ap (before k) c.key.ensures.bytes) ∙ e)
