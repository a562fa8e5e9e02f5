-- `bodies::Searches::narrow` meets its contract: no search is pending at a level that is left out.
use Rattle.std.proofs.Common.{arith}
use Rattle.bodies.proofs.Levels.{first_fits, narrows_between, narrows_none}
use Rattle.bodies.proofs.Searches.narrow.Goals as goal
use Rattle.bodies.proofs.Searches.narrow.Goals.{in_default-via-in-Some+in_default, in_default-via-in_default}

pub overflow_add-self-in-Some-Some : goal.overflow_add-self-in-Some-Some
overflow_add-self-in-Some-Some c =
    let l = first_fits c.args.self.now c.if-self.false c.requires.high c.in-Some-Some.first c.in-Some-Some.ensures.0 in
    omega (arith, l)

pub returns-in-Some-Some : goal.returns-in-Some-Some
returns-in-Some-Some c =
    let a = c.in-Some-Some in
    narrows_between c.args.self.now c.if-self.false c.requires.high a.first a.last a.ensures.0 a.ensures.1 a.ensures'.0 a.ensures'.1

pub returns-in_default : goal.returns-in_default
returns-in_default c =
    elim c.in_default.branch [
      | in_default-via-in-Some+in_default w ↦ narrows_none c.args.self.now c.if-self.false c.requires.high w.in_default.ensures'
      | in_default-via-in_default w ↦ narrows_none c.args.self.now c.if-self.false c.requires.high (rw w.in_default.is-0 at c.first_some.ensures)
    ]
