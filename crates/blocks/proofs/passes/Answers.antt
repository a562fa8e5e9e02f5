-- Each byte of the block passed.
use Rattle.std.proofs.Common.{arith, true, ◌<◌, ◌+◌, ◌-◌, length, take, drop, length-take, length-drop, subst}
use Rattle.blocks.proofs.Pieces.{byte_of_part}
use Rattle.blocks.proofs.passes.Goals as goal

pub returns : goal.returns
returns g c = λ e i k.
    let s = c.args.s.now in
    let n = c.args.at + 16 - c.args.at in
    let block = take n (drop c.args.at s) in
    let inside : i < length block = simp (length-take, length-drop) (omega arith) in
    subst (λ b. g.F.Fn.post c.args.test (b, tt) true) (byte_of_part s c.args.at n i (omega arith)) (c.every.ensures e i inside)
