-- `memo::body_behind` meets its contract: the brackets of the bytes are few, so what is counted behind them is a number.
use native.Mathlib.Omega.{arith}
use Prim.Native.Nat.{◌≤◌}
use lib.ListN.{length}
use Rattle.chunks.specs.PastLaws.{brackets_most, counted_further}
use Rattle.memo.proofs.body_behind.Goals as goal

pub counts_past-requires : goal.counts_past-requires
counts_past-requires c =
    let a = c.args in
    let r = c.requires in
    let b = brackets_most _ a.from a.to a.c r.2 r.5 in
    let most : length a.text.text.now ≤ 9223372036854775807 = omega arith in
    (b.0, b.1, b.2, counted_further a.n a.from 9223372036854775807 (omega (arith, r.0, r.1, most)) r.3)
