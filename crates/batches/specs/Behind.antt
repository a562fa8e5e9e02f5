-- The keys of a rising list that stand behind the last one taken.
use Rattle.std.specs.Prelude.{ℕ, ◌≡◌, Bool, true, false}
use Rattle.std.proofs.Math.Path.{refl}
use Rattle.std.proofs.Common.{ap}
use Rattle.std.proofs.Math.Logic.{inl, inr}
use mathlib.Core.List.{List, [], ◌∷◌, ◌++◌}
use Rattle.std.proofs.Math.Option.{Option, none, some}
use Rattle.text_rules.specs.ByteOrder.{before-asym}
use Rattle.text_rules.specs.Bytes.{All, before, kept}
use Rattle.text_rules.specs.BytesLaws.{All_in, All-map, whether}
use Rattle.text_rules.specs.Selection.{Rising}
use Rattle.order.specs.Best.{After, first_not, last_of, rest-after}
use Rattle.in_order.specs.StaleKeys.{behind}

module _ (test : List ℕ → Bool) where
  kept-all : (P : List ℕ → Type 0) (ks : List (List ℕ)) → All P ks → All P (kept test ks)
  unfolding kept
  kept-all P [] h = tt
  kept-all P (k ∷ ks) h = elim (whether (test k)) [ inl t ↦ rw t (h.0, kept-all P ks h.1) | inr t ↦ rw t (kept-all P ks h.1) ]

  pub kept-rising : (ks : List (List ℕ)) → Rising before ks → Rising before (kept test ks)
  unfolding kept
  kept-rising [] h = tt
  kept-rising (k ∷ ks) h = elim (whether (test k)) [ inl t ↦ rw t (kept-all _ ks h.0, kept-rising ks h.1) | inr t ↦ rw t (kept-rising ks h.1) ]

  kept_of_all : (ks : List (List ℕ)) → All (λ k. test k ≡ true) ks → kept test ks ≡ ks
  unfolding kept
  kept_of_all [] h = refl
  kept_of_all (k ∷ ks) h = rw h.0 (ap (λ js. k ∷ js) (kept_of_all ks h.1))

-- behind the last of those taken stand the others
after-behind : (o : Option (List ℕ)) (k : List ℕ) → After before o k → behind o k ≡ true
after-behind none k a = refl
after-behind (some l) k a = a

behind-after : (o : Option (List ℕ)) (k : List ℕ) → behind o k ≡ true → After before o k
behind-after none k e = tt
behind-after (some l) k e = e

rest-behind : (done rest : List (List ℕ)) → Rising before (done ++ rest) → All (λ k. behind (last_of done) k ≡ true) rest
rest-behind done rest h = All-map _ _ (λ k m. after-behind (last_of done) k (rest-after before before-asym done rest h m)) rest (All_in rest)

front_not : (x : List ℕ) (ds rest : List (List ℕ)) → Rising before (x ∷ ds ++ rest) → behind (last_of (x ∷ ds)) x ≡ false
front_not x ds rest h =
    elim (whether (behind (last_of (x ∷ ds)) x)) [
      | inl e ↦ absurd (first_not before before-asym x ds (All-front _ ds rest h.0) (behind-after (last_of (x ∷ ds)) x e))
      | inr e ↦ e
    ]
  where
    All-front : (P : List ℕ → Type 0) (xs ys : List (List ℕ)) → All P (xs ++ ys) → All P xs
    All-front P [] ys a = tt
    All-front P (y ∷ xs) ys a = (a.0, All-front P xs ys a.1)

pub past : (done rest : List (List ℕ)) → Rising before (done ++ rest) → kept (behind (last_of done)) (done ++ rest) ≡ rest
unfolding kept
past [] rest h = kept_of_all (behind none) rest (rest-behind [] rest h)
past (x ∷ []) rest h = rw (front_not x [] rest h) (kept_of_all (behind (some x)) rest (rest-behind (x ∷ []) rest h))
past (x ∷ y ∷ ys) rest h = rw (front_not x (y ∷ ys) rest h) (past (y ∷ ys) rest h.1)
