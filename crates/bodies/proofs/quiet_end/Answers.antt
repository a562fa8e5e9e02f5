-- `bodies::quiet_end` meets its contract: each byte that it passes is no mark.
use Rattle.std.proofs.Common.{arith}
use Rattle.bodies.proofs.Marks.{quiet_all, quiet_part}
use Rattle.bodies.proofs.quiet_end.Goals as goal

pub returns-in-Some-clause-quiet : goal.returns-in-Some-clause-quiet
returns-in-Some-clause-quiet c =
    let e = c.in-Some.ensures in
    quiet_part c.args.s.now c.args.from c.args.to (omega arith) c.requires.to c.in-Some.mark (omega (arith, e.0)) e.1

pub returns-in-None-clause-quiet : goal.returns-in-None-clause-quiet
returns-in-None-clause-quiet c = quiet_all c.args.s.now c.args.from c.args.to (omega arith) c.requires.to c.in-None.ensures
