-- `angles::Groups::open` meets its contract: the brackets belong to the last group, or are one.
use Rattle.std.proofs.Common.{arith}
use Rattle.std.proofs.lemmas.List.{length-reverse}
use Rattle.angles.specs.Angles.{room_above, turned_more, turned_push}
use Rattle.angles.specs.Groups.{groups_of}
use Rattle.angles.proofs.Groups.open.Goals as goal

pub push-requires : goal.push-requires
push-requires c =
    let a = c.args in
    record { room = omega (arith, length-reverse a.self.now.groups.items, room_above a.next a.at (groups_of a.self.now) c.requires.stands c.in-None.ensures) }

pub returns-in-Some : goal.returns-in-Some
returns-in-Some c =
    let a = c.args in
    rw c.resize.ensures (turned_more a.n a.next a.at _ c.in-Some.g c.requires.stands c.in-Some.ensures.0 c.in-Some.ensures.1)

pub returns-in-None : goal.returns-in-None
returns-in-None c =
    let a = c.args in
    rw c.push.ensures (turned_push a.n a.next a.at _ c.requires.stands (omega arith) c.in-None.ensures)
