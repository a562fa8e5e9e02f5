-- What a line adds is written, and what the lines behind it add remains.
use Rattle.std.proofs.Common.{ap, subst, sym, ◌∙◌}
use Rattle.listing.specs.Writes.{Remains, remains_all, remains_next, remains_none, remains_room}
use Rattle.listed_keys.specs.KeyLines.{key_lines, none_lines}
use Rattle.in_order.specs.StaleKeys.{stale_in}
use Rattle.in_order.specs.Walks.{come_of, come_start, come-over, step-lines, step-none}
use Rattle.in_order.proofs.write_each.Goals as goal

pub loop-step-init : goal.loop-step-init
loop-step-init c =
    let a = c.args in
    let whole = key_lines (stale_in a.fs.tree.now a.lines.now) in
    let all = ap come_of c.into_iter-step-iterator.ensures.into_iter_gives ∙ come_start a.fs a.lines c.new-step-items.result c.new-step-items.ensures c.requires.0 in
    subst (λ ks. Remains (key_lines ks) whole a.w.now a.w.now) (sym all) (remains_all c.requires.1)

pub write_key-requires : goal.write_key-requires
write_key-requires c =
    let now = c.loop-step.step-iterator in
    let next = c.next.new.self in
    let more = step-lines now c.in-Some.step next c.in-Some.ensures.steps.advances c.in-Some-added.key c.in-Some-added.is in
    remains_room _ (key_lines (come_of next)) c.loop-step.invariant more

pub loop-step-preserved-in-Some-added : goal.loop-step-preserved-in-Some-added
loop-step-preserved-in-Some-added c =
    let now = c.loop-step.step-iterator in
    let next = c.next.new.self in
    let more = step-lines now c.in-Some.step next c.in-Some.ensures.steps.advances c.in-Some-added.key c.in-Some-added.is in
    remains_next (key_lines (come_of next)) c.loop-step.invariant more c.write_key.ensures

pub loop-step-preserved : goal.loop-step-preserved
loop-step-preserved c =
    let a = c.args in
    let whole = key_lines (stale_in a.fs.tree.now a.lines.now) in
    let same = step-none c.loop-step.step-iterator c.in-Some.step c.next.new.self c.in-Some.ensures.steps.advances c.in_default.is in
    subst (λ ks. Remains (key_lines ks) whole a.w.now c.loop-step.w) same c.loop-step.invariant

pub returns : goal.returns
returns c = remains_none c.loop-step.invariant (none_lines _ (come-over c.loop-step.step-iterator c.in-None.ensures.steps))
