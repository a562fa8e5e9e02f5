-- A function is sought only at a word `fn` outside test spans and behind the last body. At every other byte the rules find none, so the search goes on at
-- the next byte.
use Rattle.std.specs.Prelude.{None}
use Rattle.std.proofs.Common.{refl}
use Rattle.source.specs.View.{state_of}
use Rattle.source.proofs.Turns.{past, ready_turn, turned}
use Rattle.source.proofs.Cursor.turn_at.Goals as goal

pub returns-then-not-is_sought : goal.returns-then-not-is_sought
returns-then-not-is_sought c =
    let old = state_of c.args.self.now in
    let m = state_of c.open_span.new.self in
    let o = c.open_span.ensures in
    ready_turn old.text old (state_of c.step.new.self) None c.step.ensures.ready
    (past old.text old m m (state_of c.step.new.self) c.requires refl o.span o.others refl c.step.ensures.moved refl (c.is_sought.ensures.not_found c.if-not-is_sought.true))

pub returns : goal.returns
returns c =
    let old = state_of c.args.self.now in
    let o = c.open_span.ensures in
    let found = c.measure-found in
    ready_turn old.text old (state_of c.step-2.new.self) found.result c.step-2.ensures.ready
    (turned old.text old (state_of c.open_span.new.self) (state_of found.new.self) (state_of c.step-2.new.self) c.requires refl o.span o.others found.ensures.others c.step-2.ensures.moved
    found.result found.ensures.measured (c.is_sought.ensures.found c.if-not-is_sought.false))
