-- What the library's searches answer, in the words of the definitions.
use Prim.Native.Nat.{ℕ, suc, ◌+◌}
use mathlib.Core.Path.{◌≡◌, refl, ap}
use mathlib.Core.Bool.{Bool, true, false, not, cond, ◌&&◌, ◌||◌}
use mathlib.Core.List.{List, [], ◌∷◌}
use lib.Dec.{eqb}
use lib.Pointwise.{pointwise}
use native.Mathlib.Omega.{arith}
use Rattle.std.specs.List.{list_any, position, position_or_len, prefix_len, starts_with as begins_with}
use Rattle.std.proofs.Math.Option.{Option as MathOption, none, some}
use Rattle.std.proofs.lemmas.Bool.Decides.{nat_tests}
use Rattle.std.proofs.lemmas.Cmp.{same_from_slice_cmp_tested}
use Rattle.std.specs.Cmp.Lexicographic.{slice_partial_cmp}
use Rattle.std.specs.Ordering.{is_lt, nat_cmp, partial_lt}
use Rattle.std.specs.Option.{option_map}
use Rattle.std.proofs.lemmas.Grind.{common_steps}
use Rattle.std.specs.Prelude.{Option, None, Some, nat_eq}
use Rattle.text_rules.specs.Bytes.{before, same}
use Rattle.text_rules.specs.Search.{bytes_before, find, has, run, starts_with}

-- a run is the library's longest prefix that passes
pub run_prefix : (p : ℕ → Bool) (s : List ℕ) → run p s ≡ prefix_len p s
unfolding run
run_prefix p [] = refl
run_prefix p (b ∷ s) =
    elim (p b) as (λ t. (elim t [ true ↦ suc (run p s) | false ↦ 0 ]) ≡ cond t (1 + prefix_len p s) 0)
    [ true ↦ grind (arith, run_prefix p s) | false ↦ refl ]

-- `contains`
pub has_any : (x : ℕ) (s : List ℕ) → list_any (λ y. nat_eq y x) s ≡ has x s
unfolding has
has_any x [] = refl
has_any x (b ∷ s) = ap (λ t. nat_eq b x || t) (has_any x s)

-- `==` of two texts
pub same_pointwise : (s t : List ℕ) → pointwise nat_eq s t ≡ same s t
same_pointwise [] [] = refl
same_pointwise [] (y ∷ t) = refl
same_pointwise (x ∷ s) [] = refl
same_pointwise (x ∷ s) (y ∷ t) = ap (λ r. nat_eq x y && r) (same_pointwise s t)

-- a test of numbers does not ask which of the two stands first
turned : (x y : ℕ) → nat_eq x y ≡ nat_eq y x
turned x y = grind arith

-- `starts_with`
pub begins : (word s : List ℕ) → begins_with nat_eq s word ≡ starts_with word s
unfolding starts_with
begins [] s = refl
begins (x ∷ word) [] = refl
begins (x ∷ word) (b ∷ s) = λ i. turned x b i && begins word s i

-- `<` of two texts
pub before_less : (s t : List ℕ) (r : Bool) → r ≡ partial_lt (slice_partial_cmp (λ x y. Some (nat_cmp x y))) s t → r ≡ before s t
before_less = same_from_slice_cmp_tested nat_cmp is_lt before refl (λ _ _. refl) (λ _ _. refl) (λ x y xs ys o h. grind (arith, nat_tests))

-- the library's options as those of the definitions
abbrev pub told : {A : Type 0} → Option A → MathOption A
told None = none
told (Some x) = some x

-- `position_or_len`
pub before_first : (x : ℕ) (s : List ℕ) → bytes_before x s ≡ position_or_len (λ b. nat_eq b x) s
before_first x s = run_prefix (λ (b : ℕ). not (nat_eq b x)) s

-- `position`, at the place that the list begins at
pub find_position : (x at : ℕ) (s : List ℕ) → told (option_map (λ i. at + i) (position (λ b. nat_eq b x) s)) ≡ find x at s
unfolding find
find_position x at [] = refl
find_position x at (b ∷ s) = grind (arith, common_steps, find_position x (suc at) s)
