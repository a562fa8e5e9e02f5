-- A bracket's partner: the bracket of the same kind at which the depth, counted in that kind only, returns to 0.
use Rattle.std.specs.Prelude.{ℕ, suc, pred, ◌&&◌, List, [], ◌∷◌, eqb}
use Rattle.std.proofs.Math.Option.{Option, none, some}
use Rattle.text_rules.specs.Bytes.{if◌then◌otherwise◌}

-- the depth behind a byte: one more behind an opening bracket, one less behind a closing one
unfoldable pub depth_after : (opening closing b depth : ℕ) → ℕ
depth_after opening closing b depth = if eqb b opening then suc depth otherwise if eqb b closing then pred depth otherwise depth

-- the place of the partner of an opening bracket that stands before the list. `depth` counts the brackets that are open inside it,
-- so the depth of the rule is depth + 1, and the partner stands where `depth` is 0
unfoldable pub partner : (opening closing depth at : ℕ) → List ℕ → Option ℕ
partner opening closing depth at [] = none
partner opening closing depth at (b ∷ s) =
    if eqb b closing && eqb depth 0 then some at otherwise partner opening closing (depth_after opening closing b depth) (suc at) s
