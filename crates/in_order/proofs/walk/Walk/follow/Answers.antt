-- The key has the path of the last one, and so the same functions may have it.
use Rattle.std.proofs.Common.{ap, ◌∙◌}
use Rattle.gate_rules.specs.Gate.{gate}
use Rattle.gate_rules.specs.Scan.{functions_of}
use Rattle.live.specs.Live.{path_of}
use Rattle.in_order.specs.Paths.{ranged_on}
use Rattle.in_order.proofs.Following.{follow-own}
use Rattle.in_order.proofs.walk.Walk.follow.Goals as goal

pub invariant_of-self : goal.invariant_of-self
invariant_of-self c =
    let w = c.args.self.now in
    let g = c.requires in
    let same = ap path_of c.plain.ensures.0 ∙ follow-own w.lines.now g.last w.from c.args.line g.follows in
    record {
      few = w.few;
      ranged = ranged_on (functions_of gate w.functions.tree.now) w.alike.from w.alike.to w.last g.last c.plain.result g.last-is same w.ranged;
    }
