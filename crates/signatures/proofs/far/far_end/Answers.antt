-- `signatures::far::far_end` meets its contract: at each turn the search goes on from a place with so many open inside the bracket. At the end of the text
-- none is closed any more.
use Rattle.std.proofs.Common.{◌∙◌, sym}
use Rattle.text_rules.specs.Classes.{round_close, round_open}
use Rattle.source_rules.proofs.WalkSteps.{partner-end}
use Rattle.signatures.specs.Signatures.{sought-past}
use Rattle.signatures.proofs.far.far_end.Goals as goal

pub loop-at-preserved-in-Some : goal.loop-at-preserved-in-Some
loop-at-preserved-in-Some c =
    let s = c.args.text.text.now in
    let l = c.loop-at in
    let e = c.in-Some.ensures in
    record { inside = e.0; inner-most = e.1; same = l.invariant.same ∙ sought-past s l.at l.inner _ e }

pub returns : goal.returns
returns c =
    let l = c.loop-at in
    sym (l.invariant.same ∙ partner-end c.args.text.text.now l.at c.loop-at-test.false round_open round_close l.inner)
