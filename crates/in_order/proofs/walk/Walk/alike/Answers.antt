-- A key with the path of the last one has the functions of that one.
use Rattle.std.proofs.Common.{◌∙◌, arith}
use Rattle.gate_rules.specs.Gate.{gate}
use Rattle.gate_rules.specs.Scan.{functions_of}
use Rattle.key_lines.proofs.LineKeys.{both-meet}
use Rattle.in_order.specs.Paths.{ranged_on, same-path}
use Rattle.in_order.proofs.walk.Walk.alike.Goals as goal

pub returns-in-Some-clause-ranged : goal.returns-in-Some-clause-ranged
returns-in-Some-clause-ranged c =
    let w = c.args.self.now in
    let f = c.args.found in
    let k = c.args.key in
    let l = c.in-Some.last in
    let m = both-meet f.last f.key f.common f.meets k l c.requires.1 (c.requires.0 ∙ c.in-Some.is) in
    let same = same-path l.bytes.now k.bytes.now l.path f.common l.path_is (omega (arith, f.inside k c.requires.1, k.path_is)) c.if-last-found.true m in
    ranged_on (functions_of gate w.functions.tree.now) w.alike.from w.alike.to w.last l k c.in-Some.is same w.ranged
