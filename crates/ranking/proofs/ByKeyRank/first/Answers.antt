-- `ranking::ByKey::first` meets its contract: paths that differ decide.
use mathlib.Core.Path.{sym, ◌∙◌}
use Rattle.text_rules.specs.BytesLaws.{same_true}
use Rattle.functions.specs.Shown.{shown}
use Rattle.ranking.proofs.Ahead.{keys-path}
use Rattle.ranking.proofs.ByKeyRank.first.Goals as goal

pub returns-then-not-same_path : goal.returns-then-not-same_path
returns-then-not-same_path c =
    let a = c.args in
    c.before-then-not-same_path.ensures ∙ keys-path (shown a.f) (shown a.g) a.earlier (sym c.same_path.ensures ∙ c.if-not-same_path.true)

pub first_of_one_path-requires : goal.first_of_one_path-requires
first_of_one_path-requires c = same_true c.args.f.path.now c.args.g.path.now (sym c.same_path.ensures ∙ c.if-not-same_path.false)
