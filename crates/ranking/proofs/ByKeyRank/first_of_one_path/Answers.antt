-- `ranking::ByKey::first_of_one_path` meets its contract: names that differ decide, then scan order.
use mathlib.Core.Path.{ap, sym, ◌∙◌}
use Rattle.text_rules.specs.Bytes.{same}
use Rattle.text_rules.specs.BytesLaws.{same_refl}
use Rattle.functions.specs.Shown.{shown}
use Rattle.ranking.proofs.Ahead.{keys-name, keys_tied}
use Rattle.ranking.proofs.ByKeyRank.first_of_one_path.Goals as goal

pub returns-then-not-same_bytes : goal.returns-then-not-same_bytes
returns-then-not-same_bytes c =
    let a = c.args in
    c.before-then-not-same_bytes.ensures
    ∙ keys-name (shown a.f) (shown a.g) a.earlier (ap (same a.f.path.now) (sym c.requires) ∙ same_refl a.f.path.now) (sym c.same_bytes.ensures ∙ c.if-not-same_bytes.true)

pub returns : goal.returns
returns c =
    let a = c.args in
    keys_tied (shown a.f) (shown a.g) a.earlier (ap (same a.f.path.now) (sym c.requires) ∙ same_refl a.f.path.now) (sym c.same_bytes.ensures ∙ c.if-not-same_bytes.false)
