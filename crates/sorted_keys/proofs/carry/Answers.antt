-- Eight places are moved as a part of all.
use Rattle.std.proofs.Common.{◌≡◌, ◌∷◌, ◌+◌, ◌*◌, ◌-◌, ◌≤◌, arith, length, subst, ◌∙◌}
use Rattle.sorted_keys.proofs.Inserting.{moved, moved-length, with_part}
use Rattle.sorted_keys.specs.Insert.{insert_at}
use Rattle.sorted_keys.proofs.carry.Goals as goal

pub loop-k-preserved : goal.loop-k-preserved
loop-k-preserved c =
    let l = c.loop-k in
    let e = c.carry_eight-carried in
    let at = 8 * l.k in
    let n = at + 8 - at in
    let fits : at + n ≤ length l.cells = omega (arith, c.loop-k-test.true, l.invariant.0, l.auto.cells) in
    let size = moved-length at n l.cells e.new.cells l.carried e.result fits e.ensures in
    let here = moved at n l.cells e.new.cells l.carried e.result fits e.ensures in
    let next : at + n ≡ 8 * (l.k + 1) = omega arith in
    (size ∙ l.invariant.0, subst (λ i. insert_at i e.result (with_part at n l.cells e.new.cells) ≡ c.args.first ∷ c.args.cells.now) next (here ∙ l.invariant.1))
