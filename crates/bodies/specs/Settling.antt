-- Pending searches that end, those for which a condition holds: each gets one answer, and nothing else changes.
use Rattle.std.specs.Prelude.{ℕ, suc, ◌≤◌, ◌<◌, ◌≡◌, refl, ◌⊎◌, ◌≢◌, List, get_or, set}
use Rattle.std.proofs.Common.{subst, sym, ◌∙◌, inl, inr, arith}
use Rattle.angles.specs.Angles.{same_or_not}
use Rattle.bodies.specs.Chain.{Chain, Fits, Pending, popped, set-elsewhere, set_there}
use Rattle.bodies.specs.declared.Searches.{Searches}
use Rattle.bodies.specs.declared.Sought.{Sought}
use Rattle.bodies.specs.declared.Sought.TheVariants.{Ongoing, Unknown}

-- some of them have ended
pub record Settling (level : ℕ → ℕ) (E : ℕ → Type 0) (told : Sought) (m n : List Sought) (links heads : List ℕ) : Type 0 where
  pub chain : Chain level n links heads
  pub same : (i : ℕ) → (get_or n i Unknown ≡ get_or m i Unknown) ⊎ (Pending m i × E i × (get_or n i Unknown ≡ told))

-- all of them have
pub record Settled (level : ℕ → ℕ) (E : ℕ → Type 0) (told : Sought) (m n : List Sought) (links heads : List ℕ) : Type 0 where
  pub done : Settling level E told m n links heads
  pub gone : (i : ℕ) → Pending n i → E i → ⊥

-- the same of the searches as a struct holds them
abbrev pub Settles : (level : ℕ → ℕ) → (E : ℕ → Type 0) → (told : Sought) → (x y : Searches) → Type 0
Settles level E told x y = Settled level E told x.told y.told y.links y.heads

-- those of a level that begin at a boundary or behind it
abbrev pub Behind : (ℕ → ℕ) → (k boundary : ℕ) → ℕ → Type 0
Behind level k boundary i = (level i ≡ k) × (boundary ≤ i)

pub settling_none : (level : ℕ → ℕ) (E : ℕ → Type 0) (told : Sought) (m : List Sought) (links heads : List ℕ) → Chain level m links heads → Settling level E told m m links heads
settling_none level E told m links heads c = record { chain = c; same = λ i. inl refl }

-- the first of a chain ends
module _ (level : ℕ → ℕ) (E : ℕ → Type 0) (told : Sought) (m n : List Sought) (links heads : List ℕ) (k j : ℕ) (f : Fits n links heads) (t : Settling level E told m n links heads)
    (first : get_or heads k 0 ≡ suc j) (small : k ≤ 4096) (other : told ≢ Ongoing) (ends : E j) where
  was_pending : Pending m j
  was_pending =
      elim (t.same j) [
        | inl e ↦ sym e ∙ (t.chain.heads_is k j first).0
        | inr e ↦ e.0
      ]

  pub settling_more : Settling level E told m (set n j told) links (set heads k (get_or links j 0))
  settling_more =
      record {
        chain = popped level n links heads k j told f t.chain first small other;
        same =
            λ i. elim (same_or_not i j) [
              | inl e ↦
                  subst (λ x. (get_or (set n j told) x Unknown ≡ get_or m x Unknown) ⊎ (Pending m x × E x × (get_or (set n j told) x Unknown ≡ told))) (sym e)
                  (inr (was_pending, ends, set_there n j told (omega (arith, first, f.heads_most k, f.room))))
              | inr e ↦
                  elim (t.same i) [
                    | inl h ↦ inl (set-elsewhere n j told i e ∙ h)
                    | inr h ↦ inr (h.0, h.1, set-elsewhere n j told i e ∙ h.2)
                  ]
            ];
      }

-- where the first of the level's chain is before the boundary none is left
pub settled-level : (level : ℕ → ℕ) (told : Sought) (k boundary : ℕ) (m n : List Sought) (links heads : List ℕ) → Settling level (Behind level k boundary) told m n links heads → get_or heads k 0 ≤ boundary
    → Settled level (Behind level k boundary) told m n links heads
settled-level level told k boundary m n links heads t h =
    record {
      done = t;
      gone =
          λ i p e.
          let l : i < get_or heads k 0 = subst (λ x. i < get_or heads x 0) e.0 (t.chain.heads_last i p) in
          omega (arith, l, h, e.1);
    }

-- the same, told by another condition
pub settled_as : (level : ℕ → ℕ) (E F : ℕ → Type 0) (told : Sought) (m n : List Sought) (links heads : List ℕ) → Settled level E told m n links heads
    → ((i : ℕ) → E i → F i) → ((i : ℕ) → Pending n i → F i → E i) → Settled level F told m n links heads
settled_as level E F told m n links heads t to from =
    record {
      done =
          record {
            chain = t.done.chain;
            same = λ i. elim (t.done.same i) [ inl h ↦ inl h | inr h ↦ inr (h.0, to i h.1, h.2) ];
          };
      gone = λ i p e. t.gone i p (from i p e);
    }

-- where none ends nothing changes
pub settled-none : (level : ℕ → ℕ) (E : ℕ → Type 0) (told : Sought) (m : List Sought) (links heads : List ℕ) → Chain level m links heads → ((i : ℕ) → Pending m i → E i → ⊥) → Settled level E told m m links heads
settled-none level E told m links heads c h = record { done = settling_none level E told m links heads c; gone = h }
