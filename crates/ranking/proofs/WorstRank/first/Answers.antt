-- `ranking::Worst::first` meets its contract: cyclomatic numbers that differ decide, then paths that differ, then scan order.
use mathlib.Core.Path.{sym, ◌∙◌}
use Rattle.functions.specs.Shown.{shown}
use Rattle.ranking.proofs.Ahead.{worst_branches, worst_path, worst_tied}
use Rattle.ranking.proofs.WorstRank.first.Goals as goal

pub returns-then-f-g : goal.returns-then-f-g
returns-then-f-g c =
    let a = c.args in
    worst_branches (shown a.f) (shown a.g) a.earlier c.if-f-g.true

pub returns-then-not-same_path : goal.returns-then-not-same_path
returns-then-not-same_path c =
    let a = c.args in
    c.before-then-not-same_path.ensures ∙ worst_path (shown a.f) (shown a.g) a.earlier c.if-f-g.false (sym c.same_path.ensures ∙ c.if-not-same_path.true)

pub returns : goal.returns
returns c =
    let a = c.args in
    worst_tied (shown a.f) (shown a.g) a.earlier c.if-f-g.false (sym c.same_path.ensures ∙ c.if-not-same_path.false)
