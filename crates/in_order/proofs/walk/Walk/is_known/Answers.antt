-- Each test of the definition is asked in its turn, the second of the functions alone that may have the key.
use Rattle.std.proofs.Common.{ap, sym, ◌∙◌}
use Rattle.gate_rules.specs.Gate.{gate}
use Rattle.gate_rules.specs.Scan.{functions_of}
use Rattle.live.specs.Live.{decided}
use Rattle.key_lines.specs.Keys.{repeats_last, text_of}
use Rattle.in_order.specs.Passing.{known-rest}
use Rattle.in_order.specs.Paths.{ranged-only}
use Rattle.in_order.proofs.walk.Walk.is_known.Goals as goal

pub returns : goal.returns
returns c =
    let w = c.args.self.now in
    let k = c.args.key in
    let fs = functions_of gate w.functions.tree.now in
    let is = c.repeats.ensures ∙ ap (λ o. repeats_last (text_of c.args.found.last) (text_of o)) c.requires.0 in
    let only = ranged-only fs w.alike.from w.alike.to w.last k c.requires.1 w.ranged in
    decided k.bytes.now fs w.alike.from w.alike.to only c.any_has.result c.any_has.ensures.live c.any_has.ensures.dead
    ∙ known-rest _ _ (sym is ∙ c.if-repeats.false)
