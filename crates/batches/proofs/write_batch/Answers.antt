-- The line of a key is written, and those of the keys behind it remain.
use Rattle.std.proofs.Common.{◌+◌, [], ◌∷◌, ◌++◌, ap, sym, ◌∙◌, drop, arith, drop_of_length-le}
use Rattle.listing.specs.Writes.{remains_next, remains_none, remains_room}
use Rattle.listed_keys.specs.KeyLines.{key_lines, none_lines}
use Rattle.batches.proofs.Taking.{rest_next}
use Rattle.batches.proofs.write_batch.Goals as goal

pub write_key-requires : goal.write_key-requires
write_key-requires c =
    let ks = c.args.keys.now.keys in
    let i = c.loop-i.i in
    let next = rest_next ks i (omega (arith, c.len-i-end.ensures.count, c.loop-i-test.true)) ∙ ap (λ k. key_lines (k ∷ []) ++ key_lines (drop (i + 1) ks)) (sym c.key.ensures.bytes) in
    remains_room (key_lines (c.key.result.now ∷ [])) (key_lines (drop (i + 1) ks)) c.loop-i.invariant next

pub loop-i-preserved : goal.loop-i-preserved
loop-i-preserved c =
    let ks = c.args.keys.now.keys in
    let i = c.loop-i.i in
    let next = rest_next ks i (omega (arith, c.len-i-end.ensures.count, c.loop-i-test.true)) ∙ ap (λ k. key_lines (k ∷ []) ++ key_lines (drop (i + 1) ks)) (sym c.key.ensures.bytes) in
    remains_next (key_lines (drop (i + 1) ks)) c.loop-i.invariant next c.write_key.ensures

pub returns : goal.returns
returns c =
    let ks = c.args.keys.now.keys in
    remains_none c.loop-i.invariant (none_lines (drop c.loop-i.i ks) (drop_of_length-le ks (omega (arith, c.len-i-end.ensures.count, c.loop-i-test.false))))
