-- `regressions::write_lines` meets its contract: a line is put exactly if there is one.
use mathlib.Core.Path.{ap, subst, sym, ◌∙◌}
use native.Mathlib.Omega.{arith}
use lib.ListN.{length}
use Rattle.functions.specs.Shown.{shown}
use Rattle.listing.specs.Writes.{Writes, remains_all, remains_none}
use Rattle.regression_sizes.specs.Lines.{lines_line, lines_none, nothing_listed}
use Rattle.regressions.proofs.write_lines.Goals as goal

pub write_line-requires : goal.write_line-requires
write_line-requires c =
    let a = c.args in
    omega (arith, c.requires, ap length (lines_line (shown a.f) a.m (sym c.more_lines.ensures ∙ c.if-more_lines.true)))

pub returns-then-more_lines : goal.returns-then-more_lines
returns-then-more_lines c =
    let a = c.args in
    subst (λ s. Writes s a.w.now c.write_line.new.w) (lines_line (shown a.f) a.m (sym c.more_lines.ensures ∙ c.if-more_lines.true)) c.write_line.ensures

pub returns-else-more_lines : goal.returns-else-more_lines
returns-else-more_lines c =
    let a = c.args in
    remains_none (remains_all c.requires) (nothing_listed (lines_none (shown a.f) a.m (sym c.more_lines.ensures ∙ c.if-more_lines.false)))
