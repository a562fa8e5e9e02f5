-- `bodies::Walk::step` meets its contract: the laws of the walk, one after another.
use Rattle.std.proofs.Common.{◌+◌, ap, sym, subst, arith}
use Rattle.bodies.specs.Walking.{begins-at, closed_most, kept-begun, Kept, kept-further, opened_most}
use Rattle.bodies.proofs.Counting.{byte_most, counted}
use Rattle.bodies.proofs.Walk.step.Goals as goal

pub end_at-requires-clause-fit : goal.end_at-requires-clause-fit
end_at-requires-clause-fit c = (kept-begun _ _ _ c.requires.kept _ c.begin.ensures).fits

pub pass-requires-clause-stands : goal.pass-requires-clause-stands
pass-requires-clause-stands c = rw c.end_at.ensures.same (kept-begun _ _ _ c.requires.kept _ c.begin.ensures).stack

pub overflow_add-self : goal.overflow_add-self
overflow_add-self c =
    let o = opened_most _ _ _ (kept-begun _ _ _ c.requires.kept _ c.begin.ensures) in
    let e = ap (λ w. w.opened) c.end_at.ensures.same in
    omega (arith, o, e, byte_most _ _ c.from.ensures)

pub overflow_add-self-2 : goal.overflow_add-self-2
overflow_add-self-2 c =
    let o = closed_most _ _ _ (kept-begun _ _ _ c.requires.kept _ c.begin.ensures) in
    let e = ap (λ w. w.closed) c.end_at.ensures.same in
    omega (arith, o, e, byte_most _ _ c.from-2.ensures)

pub returns-clause-kept : goal.returns-clause-kept
returns-clause-kept c =
    let k = kept-begun _ _ _ c.requires.kept _ c.begin.ensures in
    let v = c.begin.new.self in
    let at = begins-at _ c.args.self.now v c.begin.ensures in
    let e = c.end_at.ensures in
    let t = c.pass.ensures in
    let o = counted 91 _ v.opened _ c.from.ensures in
    let d = counted 93 _ v.closed _ c.from-2.ensures in
    let w = c.end_at.new.self in
    let g = c.pass.new.self in
    subst (λ z. Kept c.args.p.now.text.text.now c.args.p.now.starts.now (record { at = z.at + 1; next = z.next; opened = z.opened + c.from.result; closed = z.closed + c.from-2.result; groups = g; searches = z.searches })) (sym e.same)
    (kept-further _ _ v k (omega (arith, at, c.requires.inside)) w.searches e.fewer (e.ended _ k.chain) g (rw e.same at t) _ _ o d)
