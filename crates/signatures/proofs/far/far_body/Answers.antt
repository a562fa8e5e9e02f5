-- `signatures::far::far_body` meets its contract: at the end of the text there is no brace any more.
use Rattle.std.proofs.Common.{◌∙◌, arith, length}
use Rattle.source_rules.proofs.WalkSteps.{body_end}
use Rattle.signatures.proofs.far.far_body.Goals as goal

pub returns-in-Further : goal.returns-in-Further
returns-in-Further c =
    let s = c.args.text.text.now in
    c.requires.2 ∙ c.in-Further.ensures.0 ∙ body_end s (length s) (omega arith) _ _ _
