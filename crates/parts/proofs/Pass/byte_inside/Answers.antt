-- `parts::Pass::byte_inside` meets its contract: the brackets without a partner up to there wait, and the others are written down.
use Rattle.std.proofs.Common.{◌+◌, subst, sym, arith}
use Rattle.parts.specs.Filling.{Within, within_met, within_open, within_other}
use Rattle.parts.proofs.Pass.byte_inside.Goals as goal

pub returns-in-40-clause-within : goal.returns-in-40-clause-within
returns-in-40-clause-within c =
    let x = c.args.self.now in
    subst (λ items. Within (c.args.at + 1) (record x { opens = record { items = items } })) (sym c.push.ensures.items)
    (within_open c.args.at x c.requires.within (omega (arith, x.part.inside)) c.requires.before c.in-40.is)

pub returns-in-41-clause-within : goal.returns-in-41-clause-within
returns-in-41-clause-within c =
    let x = c.args.self.now in
    within_met c.args.at x c.requires.within (omega (arith, x.part.inside)) c.requires.before c.in-41.is _ c.close.ensures

pub returns-in_default-clause-within : goal.returns-in_default-clause-within
returns-in_default-clause-within c =
    let x = c.args.self.now in
    within_other c.args.at x c.requires.within (omega (arith, x.part.inside)) c.requires.before (omega arith) (omega arith)
