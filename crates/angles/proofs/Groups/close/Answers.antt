-- `angles::Groups::close` meets its contract: each turn closes the last group, while it has no more brackets than are left to be closed.
use Rattle.std.proofs.Common.{sym}
use Rattle.angles.specs.Angles.{closing-none, closing-rest, closing_group}
use Rattle.angles.proofs.Groups.close.Goals as goal

pub returns-then-left-size : goal.returns-then-left-size
returns-then-left-size c next at s =
    rw c.resize.ensures (closing-rest _ _ next at _ c.in-Some.g _ (sym c.in-Some.ensures.value) c.if-left-size.true (c.loop-g.invariant next at s))

pub loop-g-preserved : goal.loop-g-preserved
loop-g-preserved c next at s =
    rw c.pop.ensures.others (closing_group _ _ next at _ c.in-Some.g _ (sym c.in-Some.ensures.value) c.if-left-size.false (c.loop-g.invariant next at s))

pub returns : goal.returns
returns c next at s = closing-none _ _ next at _ _ (sym c.in_default.ensures.value) (c.loop-g.invariant next at s)
