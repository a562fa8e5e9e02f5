-- What is told of the searches: at the beginning nothing, and at the end what those find that are not told of as pending.
use Rattle.std.specs.Prelude.{ℕ, ◌≤◌, ◌<◌, ◌≡◌, refl, List, ltb, length, get_or, replicate, set}
use Rattle.std.proofs.Common.{subst, sym, ◌∙◌, inl, inr, arith, ltb-false, ltb-true}
use Rattle.std.proofs.lemmas.List.{get_or-replicate, length-replicate}
use Rattle.std.proofs.Math.ListN.{get_or-eq_default}
use Rattle.text_rules.specs.BytesLaws.{whether}
use Rattle.angles.specs.Angles.{same_or_not}
use Rattle.bodies.specs.Bodies.{Finds}
use Rattle.bodies.specs.Chain.{set-elsewhere, set_there}
use Rattle.bodies.specs.Walking.{Fresh, Rest, Rests, Tells, Told, sought, tells_none, tells-unknown}
use Rattle.bodies.specs.declared.Sought.{Sought}
use Rattle.bodies.specs.declared.Sought.TheVariants.{Nothing, Ongoing, Unknown}

-- a list of equal elements has no other
all_equal : {A : Type 0} (n k : ℕ) (x : A) → get_or (replicate n x) k x ≡ x
all_equal n k x =
    elim (whether (ltb k n)) [
      | inl t ↦ get_or-replicate n k x x (ltb-true k n t)
      | inr t ↦ (let l = ltb-false k n t in get_or-eq_default (replicate n x) x (omega (arith, length-replicate n x, l)))
    ]

pub zeros : (n k : ℕ) → ◌≡◌ {A = ℕ} (get_or (replicate n 0) k 0) 0
zeros n k = all_equal n k 0

-- where nothing is told of any search that there is
module _ (m : List Sought) (room : length m ≡ 2048) (z : (k : ℕ) → k < 2048 → get_or m k Unknown ≡ Unknown) where
  pub no-numbers : (k : ℕ) → get_or m k Unknown ≡ Unknown
  no-numbers k =
      elim (whether (ltb k 2048)) [
        | inl t ↦ z k (ltb-true k 2048 t)
        | inr t ↦ (let l = ltb-false k 2048 t in get_or-eq_default m Unknown (omega (arith, room, l)))
      ]

  pub finds-nothing : (s starts : List ℕ) (many : ℕ) → Finds s starts many m
  finds-nothing s starts many =
      let t : (k : ℕ) → Tells (get_or m k Unknown) (sought s starts k) = λ k. tells-unknown _ _ (no-numbers k) in
      record { none-there = λ k l. (t k).none_found; brace-there = λ k p l. (t k).brace-found p }

  pub fresh : Fresh (record { told = m; links = replicate 2048 0; heads = replicate 4097 0; pending = 0; low = 4096; high = 0 })
  fresh =
      record {
        fits =
            record {
              room = room;
              links_room = length-replicate {A = ℕ} 2048 0;
              heads_room = length-replicate {A = ℕ} 4097 0;
              heads_most = λ k. omega (arith, zeros 4097 k);
              links_fall = λ j. omega (arith, zeros 2048 j);
            };
        nothing-told = no-numbers;
        no-head = zeros 4097;
        none-pending = refl;
        low-most = omega arith;
        high-most = omega arith;
      }

-- the searches of a call before the walk
pub unknown_room : length (replicate 2048 Unknown) ≡ 2048
unknown_room = length-replicate 2048 Unknown

pub unknown-each : (k : ℕ) → k < 2048 → get_or (replicate 2048 Unknown) k Unknown ≡ Unknown
unknown-each k l = all_equal 2048 k Unknown

-- what is told at the end
pub told-finds : (s starts : List ℕ) (at : ℕ) (m : List Sought) → Told s starts at m → (many : ℕ) → Finds s starts many m
told-finds s starts at m t many = record { none-there = λ k l. (t.tells k).none_found; brace-there = λ k p l. (t.tells k).brace-found p }

-- what is pending is told to find none, one after another
pub rest_none : (m : List Sought) → Rest m m
rest_none m i = inl refl

pub rest_more : (m n : List Sought) (i : ℕ) → Rest m n → i < length n → get_or n i Unknown ≡ Ongoing → Rest m (set n i Nothing)
rest_more m n i r h p j =
    elim (same_or_not j i) [
      | inl e ↦
          (let q : get_or m i Unknown ≡ Ongoing = elim (r i) [ inl z ↦ sym z ∙ p | inr z ↦ (let y = z.1 in cc) ] in
          subst (λ x. Rests (get_or m x Unknown) (get_or (set n i Nothing) x Unknown)) (sym e) (inr (q, set_there n i Nothing h)))
      | inr e ↦ subst (Rests (get_or m j Unknown)) (sym (set-elsewhere n i Nothing j e)) (r j)
    ]

-- at the end of the text those that are pending find none
pub told-rest : (s starts : List ℕ) (at : ℕ) (m n : List Sought) → Told s starts at m → length s ≤ at → Rest m n → (many : ℕ) → Finds s starts many n
told-rest s starts at m n t end r many = record { none-there = λ k l. (tells k).none_found; brace-there = λ k p l. (tells k).brace-found p } where
  tells : (k : ℕ) → Tells (get_or n k Unknown) (sought s starts k)
  tells k =
      elim (r k) [
        | inl e ↦ subst (λ x. Tells x (sought s starts k)) (sym e) (t.tells k)
        | inr e ↦ tells_none _ _ e.1 (t.rest end k e.0)
      ]
