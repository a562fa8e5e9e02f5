-- `bodies::note_bodies` meets its contract: the walk begins with nothing told, and what is told at its end stays so.
use Rattle.std.proofs.Common.{get_or}
use Rattle.bodies.specs.Numbers.{finds-nothing, told-finds, told-rest, unknown-each, unknown_room}
use Rattle.bodies.specs.Walking.{kept-first, kept-told}
use Rattle.bodies.proofs.note_bodies.Goals as goal
use Rattle.bodies.proofs.note_bodies.Goals.{then-end-walk, else-end-walk}

pub returns-then-end-gt4294967292 : goal.returns-then-end-gt4294967292
returns-then-end-gt4294967292 c = finds-nothing _ unknown_room unknown-each _ _ _

pub walk-requires : goal.walk-requires
walk-requires c =
    let first = c.in-Some.ensures.item.3 in
    rw (first.1 0)
    (kept-first c.args.text.text.now c.args.starts.now c.new.result c.new-2.result (c.requires.rising.inside 0 first.0) c.if-end-gt4294967292.false
    (c.new.ensures (get_or c.args.starts.now 0 0)) c.new-2.ensures)

pub returns : goal.returns
returns c =
    let t = kept-told _ _ c.walk.new.self c.walk.ensures in
    elim c.if-end-walk.branch [
      | then-end-walk w ↦ rw w.walk-is (told-rest _ _ _ _ _ t w.if-end-walk.true w.finish.ensures _)
      | else-end-walk w ↦ rw w.walk-is (told-finds _ _ _ _ t _)
    ]
