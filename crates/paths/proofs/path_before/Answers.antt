-- The library compares the ranks of the bytes one by one.
use Rattle.std.proofs.Common.{rules, ℕ, ◌≡◌, ◌∙◌, refl, ap, arith, List, [], ◌∷◌, map}
use Rattle.std.specs.Ordering.{nat_cmp, is_lt, ordering_then}
use Rattle.std.specs.declared.cmp.Ordering.{Ordering}
use Rattle.std.specs.Cmp.Lexicographic.{slice_cmp}
use Rattle.std.proofs.lemmas.Cmp.{same_from_slice_cmp}
use Rattle.std.proofs.lemmas.Iterator.{YieldsList-from_map, YieldsList-from_slice}
use Rattle.std.proofs.lemmas.Iterator.Search.{cmp_from_yields_List}
use Rattle.std.proofs.lemmas.Bool.Decides.{nat_tests}
use Rattle.gate_rules.specs.Tree.{path_before, rank}
use Rattle.paths.proofs.path_before.Goals as goal

-- the order of the ranks
mapped : (p q : List ℕ) → slice_cmp nat_cmp (map rank p) (map rank q) ≡ slice_cmp (λ x y. nat_cmp (rank x) (rank y)) p q
mapped [] [] = refl
mapped [] (y ∷ q) = refl
mapped (x ∷ p) [] = refl
mapped (x ∷ p) (y ∷ q) = ap (ordering_then (nat_cmp (rank x) (rank y))) (mapped p q)

compared : (p q : List ℕ) (r : Ordering) → r ≡ slice_cmp nat_cmp (map rank p) (map rank q) → is_lt r ≡ path_before p q
unfolding path_before rank
compared p q r e =
    same_from_slice_cmp (λ x y. nat_cmp (rank x) (rank y)) is_lt path_before refl (λ _ _. refl) (λ _ _. refl) (λ x y xs ys o h. grind (arith, nat_tests)) p q r (e ∙ mapped p q)

pub returns : goal.returns
returns c =
    let ranks : c.cmp.result ≡ slice_cmp nat_cmp (map rank c.args.p.now) (map rank c.args.q.now) =
    cmp_from_yields_List {xs = map rank c.args.p.now} {ys = map rank c.args.q.now} (λ x y. y ≡ x) _ nat_cmp _ c.cmp.ensures.ran
    (YieldsList-from_map _ rank (YieldsList-from_slice c.args.p.now cc) refl (λ x r q k. (refl, search rules)))
    (λ it e. YieldsList-from_map _ rank (YieldsList-from_slice c.args.q.now (ap (λ m. m.iter.rest.now) e ∙ cc)) refl (λ x r q k. (refl, search rules))) (λ x y. refl) in
    c.is_lt.ensures ∙ compared c.args.p.now c.args.q.now c.cmp.result ranks
