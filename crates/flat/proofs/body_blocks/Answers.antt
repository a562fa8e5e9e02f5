-- A block that may be passed whole leaves the brace that is sought, with the counts behind it.
use Rattle.std.proofs.Common.{◌≡◌, ◌+◌, arith, leb-false, ltb-false, refl}
use Rattle.std.proofs.lemmas.Bool.Decides.{nat_tests}
use Rattle.flat.specs.BlockLaws.{block_halts}
use Rattle.flat.proofs.body_blocks.Goals as goal

pub loop-at-preserved : goal.loop-at-preserved
loop-at-preserved c =
    let a = c.args in
    let l = c.loop-at in
    rw c.behind-counts.ensures
    (block_halts a.s.now a.from a.to a.n l.at l.counts c.tallied-t.result l.invariant c.tallied-t.ensures.tallies (omega arith) (omega arith) (c.passes.ensures c.if-not-passes.false) _ refl)

-- where the last block ends at `to` there is no next step
pub returns-else-not-passes : goal.returns-else-not-passes
returns-else-not-passes c =
    let a = c.args in
    let l = c.loop-at in
    let last : a.to ≡ l.at + 16 = grind (arith, nat_tests, ltb-false, leb-false) in
    let h = block_halts a.s.now a.from a.to a.n l.at l.counts c.tallied-t.result l.invariant c.tallied-t.ensures.tallies (omega arith) (omega arith) (c.passes.ensures c.if-not-passes.false) _ refl in
    rw (c.behind-counts.ensures, last) (rw last at h)
