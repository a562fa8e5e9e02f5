-- Each turn leaves the functions that are still to come, until one is found or the text ends.
use Rattle.std.proofs.Common.{◌≡◌, ◌∙◌, [], ap, arith, length, subst}
use Rattle.source.specs.Cursors.{Ready, remaining}
use Rattle.source.specs.Bytes.{bytes_of}
use Rattle.source.specs.View.{state_of}
use Rattle.source.specs.Steps.{remaining-end}
use Rattle.source.proofs.CursorIterator.next.Goals as goal

pub returns-clause-steps : goal.returns-clause-steps
returns-clause-steps c =
    let s = bytes_of c.args.self.now.text in
    let l = c.loop-self in
    let e = state_of l.self in
    let d = state_of c.pass_quiet.new.self in
    let p = c.pass_quiet.ensures in
    let text : d.text ≡ s = p.passed.0 ∙ l.invariant.text in
    let same : remaining s e ≡ remaining s d = subst (λ t. remaining t e ≡ remaining t d) l.invariant.text p.passed.1 in
    let none-left : remaining s d ≡ [] = remaining-end s d (omega (arith, ap length text, p.end c.loop-self-test.false)) in
    record { all_found = l.invariant.same ∙ same ∙ none-left; none_left = none-left; text = text; ready = subst (λ t. Ready t d) text p.ready }
