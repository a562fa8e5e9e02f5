-- `regressions::write_branches` meets its contract: a line is put exactly if there is one.
use mathlib.Core.Path.{ap, subst, sym, ◌∙◌}
use native.Mathlib.Omega.{arith}
use lib.ListN.{length}
use Rattle.functions.specs.Shown.{shown}
use Rattle.listing.specs.Writes.{Writes, remains_all, remains_none}
use Rattle.regression_sizes.specs.Lines.{branches_line, branches_none, nothing_listed}
use Rattle.regressions.proofs.write_branches.Goals as goal

pub write_line-requires : goal.write_line-requires
write_line-requires c =
    let a = c.args in
    omega (arith, c.requires, ap length (branches_line (shown a.f) a.m (sym c.more_branches.ensures ∙ c.if-more_branches.true)))

pub returns-then-more_branches : goal.returns-then-more_branches
returns-then-more_branches c =
    let a = c.args in
    subst (λ s. Writes s a.w.now c.write_line.new.w) (branches_line (shown a.f) a.m (sym c.more_branches.ensures ∙ c.if-more_branches.true)) c.write_line.ensures

pub returns-else-more_branches : goal.returns-else-more_branches
returns-else-more_branches c =
    let a = c.args in
    remains_none (remains_all c.requires) (nothing_listed (branches_none (shown a.f) a.m (sym c.more_branches.ensures ∙ c.if-more_branches.false)))
