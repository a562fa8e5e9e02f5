-- `ranking::Worst::first_of_one_path` meets its contract: cyclomatic numbers that differ decide, then scan order.
use mathlib.Core.Path.{ap, sym, ◌∙◌}
use Rattle.text_rules.specs.Bytes.{same}
use Rattle.text_rules.specs.BytesLaws.{same_refl}
use Rattle.functions.specs.Shown.{shown}
use Rattle.ranking.proofs.Ahead.{worst_branches, worst_tied}
use Rattle.ranking.proofs.WorstRank.first_of_one_path.Goals as goal

pub returns-then-f-g : goal.returns-then-f-g
returns-then-f-g c =
    let a = c.args in
    worst_tied (shown a.f) (shown a.g) a.earlier c.if-f-g.true (ap (same a.f.path.now) (sym c.requires) ∙ same_refl a.f.path.now)

pub returns : goal.returns
returns c =
    let a = c.args in
    worst_branches (shown a.f) (shown a.g) a.earlier c.if-f-g.false
