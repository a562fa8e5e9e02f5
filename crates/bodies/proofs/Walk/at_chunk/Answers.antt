-- `bodies::Walk::at_chunk` meets its contract: where no pending search ends in the chunk the walk keeps what is known of them.
use Rattle.std.proofs.Common.{sym, subst}
use Rattle.bodies.specs.Crossing.{chunk_closed, chunk_opened, chunk_ups, kept-crossed, kept_narrowed}
use Rattle.bodies.specs.Walking.{Kept, closed_before_here, opened_before_here, with_searches}
use Rattle.bodies.proofs.Walk.at_chunk.Goals as goal

pub pass-requires-clause-chunk : goal.pass-requires-clause-chunk
pass-requires-clause-chunk c =
    let y = c.requires.summary.covers in
    (chunk_ups _ _ _ y, chunk_opened _ _ _ y, chunk_closed _ _ _ y)

pub pass-requires-clause-opened : goal.pass-requires-clause-opened
pass-requires-clause-opened c = opened_before_here _ _ _ c.requires.kept

pub pass-requires-clause-closed : goal.pass-requires-clause-closed
pass-requires-clause-closed c = closed_before_here _ _ _ c.requires.kept

pub returns-then-is_missed-clause-kept : goal.returns-then-is_missed-clause-kept
returns-then-is_missed-clause-kept c =
    let a = c.args in
    let w = with_searches a.self.now c.narrow.new.self in
    let k = kept_narrowed _ _ a.self.now c.requires.kept c.narrow.new.self c.narrow.ensures in
    subst (Kept a.p.now.text.text.now a.p.now.starts.now) (sym c.pass.ensures.crossed)
    (kept-crossed a.p.now.text.text.now a.p.now.starts.now w k a.c c.requires.summary.covers (c.is_missed.ensures c.if-is_missed.true) c.pass.new.self.groups c.pass.ensures.turns)
