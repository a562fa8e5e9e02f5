-- Each way through the match is one step of the count.
use Rattle.std.proofs.Common.{arith, ◌<◌, ◌≡◌, length, drop, sym, ◌∙◌}
use Rattle.std.proofs.lemmas.Bool.Decides.{nat_tests}
use Rattle.source_rules.specs.Parameters.{is_closing, is_opening, parts_from}
use Rattle.source_rules.proofs.WalkSteps.{parts-end, parts-step}
use Rattle.params.proofs.parts.Goals as goal
use Rattle.params.proofs.parts.Goals.{in-40, in-41, in-44, in-44+else-opened-closed, in_default-1}

pub loop-b-preserved : goal.loop-b-preserved
unfolding is_opening is_closing
loop-b-preserved c =
    let v = c.loop-b in
    let s = c.args.s.now in
    let inside : v.b-index < length s = c.loop-b-test.true in
    let step = parts-step s v.b-index inside v.n v.opened v.closed in
    let before : parts_from v.n v.opened v.closed (drop v.b-index s) ≡ parts_from 1 0 0 s = v.invariant.counted in
    elim c.match-b.branch [
      | in-40 w ↦ record { few = omega arith; few_opened = omega arith; few_closed = omega arith; counted = grind (arith, nat_tests, step, before) }
      | in-41 w ↦ record { few = omega arith; few_opened = omega arith; few_closed = omega arith; counted = grind (arith, nat_tests, step, before) }
      | in-44 w ↦ record { few = omega arith; few_opened = omega arith; few_closed = omega arith; counted = grind (arith, nat_tests, step, before) }
      | in-44+else-opened-closed w ↦ record { few = omega arith; few_opened = omega arith; few_closed = omega arith; counted = grind (arith, nat_tests, step, before) }
      | in_default-1 w ↦ record { few = omega arith; few_opened = omega arith; few_closed = omega arith; counted = grind (arith, nat_tests, step, before) }
    ]

pub returns : goal.returns
returns c = let v = c.loop-b in sym (parts-end c.args.s.now v.b-index (omega arith) v.n v.opened v.closed) ∙ v.invariant.counted
