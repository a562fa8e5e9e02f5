-- `words::put_u32s` meets its contract: at each turn the numbers before are put.
use Rattle.std.proofs.Common.{◌≡◌, arith, length}
use Rattle.words.proofs.Numbers.{all_put, more_put, none_put}
use Rattle.words.proofs.put_u32s.Goals as goal

pub put_u32-requires : goal.put_u32-requires
put_u32-requires g c = omega (arith, c.requires, c.loop-k-test.true, c.loop-k.auto.s)

pub loop-k-init : goal.loop-k-init
loop-k-init g c = none_put c.args.at c.args.numbers c.args.s.now

pub loop-k-preserved : goal.loop-k-preserved
loop-k-preserved g c =
    let size : length c.args.numbers ≡ g.row.N = omega arith in
    more_put c.args.at c.loop-k.k c.args.numbers _ _ _ (omega (arith, size, c.loop-k-test.true)) (omega (arith, size, c.requires)) c.loop-k.invariant c.put_u32.ensures

pub returns : goal.returns
returns g c =
    let size : length c.args.numbers ≡ g.row.N = omega arith in
    all_put c.args.at c.loop-k.k c.args.numbers _ _ (omega (arith, size, c.loop-k-test.false)) c.loop-k.invariant
