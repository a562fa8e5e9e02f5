-- `bodies::Walk::pass` meets its contract: the angle brackets that the chunk closes are closed before those that it opens are opened.
use Rattle.std.proofs.Common.{◌+◌, refl, arith}
use Rattle.angles.specs.Angles.{less, more, turned_as, turned_then}
use Rattle.bodies.specs.Crossing.{depth_behind}
use Rattle.bodies.proofs.Walk.pass.Goals as goal

pub open-requires-clause-stands : goal.open-requires-clause-stands
open-requires-clause-stands c = (c.close.ensures c.args.self.now.next c.args.self.now.at c.requires.stands).stack

pub returns-clause-turns : goal.returns-clause-turns
returns-clause-turns c =
    let w = c.args.self.now in
    let a = c.args.c in
    let t = c.close.ensures w.next w.at c.requires.stands in
    let u = turned_then (less a.downs) (more a.ups) w.next w.at (w.at + a.ups) _ _ t _ c.open.ensures in
    turned_as (depth_behind a) (depth_behind a) w.next (w.at + a.ups) (w.at + 4096) _ _ u (omega (arith, c.requires.chunk.0)) (λ d. refl)
