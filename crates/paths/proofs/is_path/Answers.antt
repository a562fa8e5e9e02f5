-- `paths::is_path` meets its contract: the tests are the definition's, in its order.
use mathlib.Core.Path.{◌≡◌, refl, ◌∙◌}
use mathlib.Core.List.{List, [], ◌∷◌}
use Rattle.std.proofs.Common.{arith}
use Rattle.std.specs.List.{starts_with as begins_with}
use Rattle.std.specs.Prelude.{ℕ, nat_eq}
use Rattle.text_rules.specs.Classes.{lf, tab}
use Rattle.text_rules.specs.Search.{has}
use Rattle.gate_rules.specs.Functions.{is_comment}
use Rattle.gate_rules.specs.Tree.{is_path}
use Rattle.seek.proofs.Library.{has_any}
use Rattle.paths.proofs.is_path.Goals as goal
use Rattle.paths.proofs.is_path.Goals.{then-not-contains, else-not-contains, then-not-contains-2, else-not-contains-2}

comment_starts : (s : List ℕ) → begins_with nat_eq s (35 ∷ []) ≡ is_comment s
unfolding is_comment
comment_starts [] = refl
comment_starts (b ∷ s) = grind arith

pub returns-then-not-starts_with : goal.returns-then-not-starts_with
unfolding is_path
returns-then-not-starts_with c =
    let s = c.args.path.now in
    let t : c.contains.result ≡ has tab s = c.contains.ensures.value ∙ has_any tab s in
    elim c.if-not-contains.branch [
      | then-not-contains w ↦
          let l : w.contains-then-not-contains.result ≡ has lf s = w.contains-then-not-contains.ensures.value ∙ has_any lf s in
          elim c.if-not-contains-2.branch [
            | then-not-contains-2 v ↦ let h : v.starts_with.result ≡ is_comment s = v.starts_with.ensures.value ∙ comment_starts s in grind arith
            | else-not-contains-2 v ↦ grind arith
          ]
      | else-not-contains w ↦ elim c.if-not-contains-2.branch [ then-not-contains-2 v ↦ grind arith | else-not-contains-2 v ↦ grind arith ]
    ]

pub returns-else-not-starts_with : goal.returns-else-not-starts_with
unfolding is_path
returns-else-not-starts_with c =
    let s = c.args.path.now in
    let t : c.contains.result ≡ has tab s = c.contains.ensures.value ∙ has_any tab s in
    elim c.if-not-contains.branch [
      | then-not-contains w ↦
          let l : w.contains-then-not-contains.result ≡ has lf s = w.contains-then-not-contains.ensures.value ∙ has_any lf s in
          elim c.if-not-contains-2.branch [
            | then-not-contains-2 v ↦ let h : v.starts_with.result ≡ is_comment s = v.starts_with.ensures.value ∙ comment_starts s in grind arith
            | else-not-contains-2 v ↦ grind arith
          ]
      | else-not-contains w ↦ elim c.if-not-contains-2.branch [ then-not-contains-2 v ↦ grind arith | else-not-contains-2 v ↦ grind arith ]
    ]
