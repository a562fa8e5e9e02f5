-- Angle brackets that are open, in groups, the last group first. A group has those that were opened while as many searches had begun: it tells how
-- many these are, and how many of its brackets are open. A search is inside the brackets of the groups at which more than its index had begun.
use Prim.Native.Nat.{ℕ, ◌+◌, ◌-◌, ◌≤◌, ◌<◌}
use Rattle.std.specs.Prelude.{◌≡◌, ◌⊎◌, ◌≢◌, List, [], ◌∷◌, Option, Some, None, eqb, leb, length}
use Rattle.std.proofs.Math.Path.{refl}
use Rattle.std.proofs.Common.{ap, subst, sym, ◌∙◌, sub-one}
use Rattle.std.proofs.Math.Logic.{inl, inr}
use Rattle.std.proofs.lemmas.Option.{none-some, same_Some}
use native.Mathlib.Omega.{arith}
use borrow.Author.Tests.{eq-eqb, eqb-false, eqb-true, le-leb, leb-false, leb-true, lt-leb, ne_eqb}
use Rattle.text_rules.specs.Bytes.{if◌then◌otherwise◌}
use Rattle.text_rules.specs.BytesLaws.{whether}
use Rattle.text_rules.specs.Classes.{angle_close, angle_open}
use Rattle.source_rules.specs.Finding.{angle_after}
use Rattle.angles.specs.declared.Group.{Group}

pub same_or_not : (i j : ℕ) → (i ≡ j) ⊎ (i ≢ j)
same_or_not i j = elim (whether (eqb i j)) [ inl e ↦ inl (eqb-true i j e) | inr e ↦ inr (eqb-false i j e) ]

-- the last group, and those before it
abbrev pub last_of : List Group → Option Group
last_of [] = None
last_of (x ∷ xs) = Some x

abbrev pub others_of : List Group → List Group
others_of [] = []
others_of (x ∷ xs) = xs

-- the groups where the last one has another size
abbrev pub resized : ℕ → List Group → List Group
resized size [] = []
resized size (x ∷ xs) = record { begun = x.begun; size = size } ∷ xs

-- a search has begun since the last group began, if there is one
abbrev pub IsBehind : (next : ℕ) → List Group → Type 0
IsBehind next xs = (x : Group) → last_of xs ≡ Some x → x.begun ≢ next

-- how many open brackets the search of an index is inside
unfoldable pub above : List Group → (i : ℕ) → ℕ
above [] i = 0
above (x ∷ xs) i = if leb x.begun i then 0 otherwise x.size + above xs i

-- the first index that is inside none
abbrev pub boundary_of : List Group → ℕ
boundary_of [] = 0
boundary_of (x ∷ xs) = x.begun

-- fewer searches had begun at each group than at the one behind it, and none is empty or larger than the place
abbrev pub Falls : (below at : ℕ) → List Group → Type 0
Falls below at [] = Unit {0}
Falls below at (x ∷ xs) = (x.begun < below) × (0 < x.size) × (x.size ≤ at) × Falls x.begun at xs

-- the groups at a place, where `next` searches have begun
pub record Stack (xs : List Group) (next at : ℕ) : Type 0 where
  pub most : next ≤ 2048
  pub falls : Falls (next + 1) at xs

-- a depth with so many brackets more, and with so many closed
abbrev pub more : ℕ → ℕ → ℕ
more n depth = depth + n

abbrev pub less : ℕ → ℕ → ℕ
less n depth = depth - n

-- the groups at a place, where each depth has changed in one way
pub record Turned (f : ℕ → ℕ) (next at : ℕ) (xs ys : List Group) : Type 0 where
  pub stack : Stack ys next at
  pub depth : (j : ℕ) → j < next → f (above xs j) ≡ above ys j

-- the groups while brackets are closed, of which some are left
pub record Closing (n left next at : ℕ) (xs ys : List Group) : Type 0 where
  pub stack : Stack ys next at
  pub depth : (j : ℕ) → j < next → above xs j - n ≡ above ys j - left

pub stack-none : (at : ℕ) → Stack [] 0 at
stack-none at = record { most = omega arith; falls = tt }

module _ (x : Group) (xs : List Group) (i : ℕ) where
  above-none : x.begun ≤ i → above (x ∷ xs) i ≡ 0
  unfolding above
  above-none h = rw (le-leb x.begun i h)

  above-some : i < x.begun → above (x ∷ xs) i ≡ x.size + above xs i
  unfolding above
  above-some h = rw (lt-leb x.begun i h)

-- an index that is inside no group
above_low : (xs : List Group) (below at i : ℕ) → Falls below at xs → below ≤ i + 1 → above xs i ≡ 0
unfolding above
above_low [] below at i f h = refl
above_low (x ∷ xs) below at i f h = above-none x xs i (omega (arith, f.0, h))

falls_later : (xs : List Group) (below below' at at' : ℕ) → below ≤ below' → at ≤ at' → Falls below at xs → Falls below' at' xs
falls_later [] below below' at at' l h f = tt
falls_later (x ∷ xs) below below' at at' l h f = (omega (arith, f.0, l), f.1, omega (arith, f.2, h), falls_later xs x.begun x.begun at at' (omega arith) h f.3)

-- from the boundary on an index is inside none, and before it inside some
pub above-behind : (xs : List Group) (i : ℕ) → boundary_of xs ≤ i → above xs i ≡ 0
unfolding above
above-behind [] i h = refl
above-behind (x ∷ xs) i h = above-none x xs i h

module _ (next at : ℕ) where
  pub above_before : (xs : List Group) (i : ℕ) → Stack xs next at → above xs i ≡ 0 → boundary_of xs ≤ i
  above_before [] i s h = omega arith
  above_before (x ∷ xs) i s h =
      elim (whether (leb x.begun i)) [
        | inl t ↦ leb-true x.begun i t
        | inr t ↦ (let a = above-some x xs i (leb-false x.begun i t) in absurd (omega (arith, a, h, s.falls.1)))
      ]

  -- the search that begins is inside none
  pub above-next : (xs : List Group) → Stack xs next at → above xs next ≡ 0
  above-next xs s = above_low xs (next + 1) at next s.falls (omega arith)

  -- one search more has begun
  pub stack-next : (xs : List Group) → next < 2048 → Stack xs next at → Stack xs (next + 1) at
  stack-next xs h s = record { most = omega arith; falls = falls_later xs (next + 1) (next + 1 + 1) at at (omega arith) (omega arith) s.falls }

  -- of each search that has begun the last group's brackets are open, where none has begun since that group
  pub above-least : (xs : List Group) (x : Group) (j : ℕ) → last_of xs ≡ Some x → x.begun ≡ next → j < next → x.size ≤ above xs j
  above-least [] x j e n h = absurd (none-some x e)
  above-least (y ∷ ys) x j e n h =
      let same = same_Some y x e in
      let a = above-some y ys j (omega (arith, ap (λ (g : Group). g.begun) same, n, h)) in
      omega (arith, a, ap (λ (g : Group). g.size) same)

module _ (next i : ℕ) (xs : List Group) (s : Stack xs next i) where
  -- the groups at a later place
  pub stack-later : (i' : ℕ) → i ≤ i' → Stack xs next i'
  stack-later i' l = record { most = s.most; falls = falls_later xs (next + 1) (next + 1) i i' (omega arith) l s.falls }

  pub turned_same : (f : ℕ → ℕ) (i' : ℕ) → i ≤ i' → ((d : ℕ) → f d ≡ d) → Turned f next i' xs xs
  turned_same f i' l e = record { stack = stack-later i' l; depth = λ j h. e (above xs j) }

-- as many groups stand at most as searches had begun
pub length_falls : (xs : List Group) (below at : ℕ) → Falls below at xs → length xs ≤ below
length_falls [] below at f = omega arith
length_falls (x ∷ xs) below at f = omega (arith, f.0, length_falls xs x.begun at f.3)

-- fewer searches had begun at the last group than have now
under : (xs : List Group) (n next i : ℕ) → Falls (next + 1) i xs → IsBehind next xs → Falls next (i + n) xs
under [] n next i f d = tt
under (y ∷ ys) n next i f d = (let e = d y refl in omega (arith, f.0, e), f.1, omega (arith, f.2), falls_later ys y.begun y.begun i (i + n) (omega arith) (omega arith) f.3)

pub height_low : (next i : ℕ) (xs : List Group) → Stack xs next i → IsBehind next xs → length xs ≤ next
height_low next i xs s new = length_falls xs next (i + 0) (under xs 0 next i s.falls new)

pub room_above : (next i : ℕ) (xs : List Group) → Stack xs next i → IsBehind next xs → length xs ≤ 2048
room_above next i xs s new = omega (arith, s.most, height_low next i xs s new)

-- brackets behind a search that is behind the last group are a group
pub turned_push : (n next i : ℕ) (xs : List Group) → Stack xs next i → 0 < n → IsBehind next xs
    → Turned (more n) next (i + n) xs (record { begun = next; size = n } ∷ xs)
turned_push n next i xs s any new =
    record {
      stack = record { most = s.most; falls = (omega arith, any, omega arith, under xs n next i s.falls new) };
      depth = λ j h. (let a = above-some (record { begun = next; size = n }) xs j h in omega (arith, a));
    }

-- the size of the last group changes
module _ (next i : ℕ) (x : Group) (xs : List Group) (s : Stack (x ∷ xs) next i) where
  sized-stack : (size i' : ℕ) → 0 < size → size ≤ i' → i ≤ i' → Stack (resized size (x ∷ xs)) next i'
  sized-stack size i' some few later =
      record { most = s.most; falls = (s.falls.0, some, few, falls_later xs x.begun x.begun i i' (omega arith) later s.falls.3) }

  -- brackets with no search begun since the last group belong to it
  sized_more : (n : ℕ) → x.begun ≡ next → Turned (more n) next (i + n) (x ∷ xs) (resized (x.size + n) (x ∷ xs))
  sized_more n e =
      record {
        stack = sized-stack (x.size + n) (i + n) (omega (arith, s.falls.1)) (omega (arith, s.falls.2)) (omega arith);
        depth =
            λ j h.
            let a = above-some x xs j (omega (arith, h, e)) in
            let b = above-some (record { begun = x.begun; size = x.size + n }) xs j (omega (arith, h, e)) in
            omega (arith, a, b);
      }

  -- fewer than the last group has are closed
  pub sized_less : (n : ℕ) → n < x.size → Turned (less n) next i (x ∷ xs) (resized (x.size - n) (x ∷ xs))
  sized_less n l =
      record {
        stack = sized-stack (x.size - n) i (omega (arith, l)) (omega (arith, s.falls.2)) (omega arith);
        depth =
            λ j h. elim (whether (leb x.begun j)) [
              | inl t ↦
                  (let t' = leb-true x.begun j t in
                  let a = above-none x xs j t' in
                  let b = above-none (record { begun = x.begun; size = x.size - n }) xs j t' in
                  omega (arith, a, b))
              | inr t ↦
                  (let t' = leb-false x.begun j t in
                  let a = above-some x xs j t' in
                  let b = above-some (record { begun = x.begun; size = x.size - n }) xs j t' in
                  omega (arith, a, b, l))
            ];
      }

  -- the last group is closed
  pub closed_whole : Turned (less x.size) next i (x ∷ xs) xs
  closed_whole =
      record {
        stack = record { most = s.most; falls = falls_later xs x.begun (next + 1) i i (omega (arith, s.falls.0)) (omega arith) s.falls.3 };
        depth =
            λ j h. elim (whether (leb x.begun j)) [
              | inl t ↦
                  (let t' = leb-true x.begun j t in
                  let a = above-none x xs j t' in
                  let b = above_low xs x.begun i j s.falls.3 (omega (arith, t')) in
                  omega (arith, a, b))
              | inr t ↦ (let a = above-some x xs j (leb-false x.begun j t) in omega (arith, a))
            ];
      }

pub turned_more : (n next i : ℕ) (xs : List Group) (x : Group) → Stack xs next i → last_of xs ≡ Some x → x.begun ≡ next
    → Turned (more n) next (i + n) xs (resized (x.size + n) xs)
turned_more n next i [] x s e b = absurd (none-some x e)
turned_more n next i (y ∷ ys) x s e b =
    let same = same_Some y x e in
    let t = sized_more next i y ys s n (ap (λ (g : Group). g.begun) same ∙ b) in
    subst (λ (g : Group). Turned (more n) next (i + n) (y ∷ ys) (resized (g.size + n) (y ∷ ys))) same t

module _ (f g : ℕ → ℕ) (next i i' : ℕ) (xs ys : List Group) (t : Turned f next i xs ys) where
  -- the same at a later place, told by another function
  pub turned_as : i ≤ i' → ((d : ℕ) → g d ≡ f d) → Turned g next i' xs ys
  turned_as l e = record { stack = stack-later next i ys t.stack i' l; depth = λ j h. e (above xs j) ∙ t.depth j h }

  -- one change after another
  pub turned_then : (zs : List Group) → Turned g next i' ys zs → Turned (λ d. g (f d)) next i' xs zs
  turned_then zs u = record { stack = u.stack; depth = λ j h. ap g (t.depth j h) ∙ u.depth j h }

-- what a byte makes of a depth
pub angle_open_lem : (b : ℕ) → b ≡ angle_open → (d : ℕ) → angle_after b d ≡ more 1 d
unfolding angle_after
angle_open_lem b e d = rw (eq-eqb b angle_open e) (omega arith)

pub angle_close_lem : (b : ℕ) → b ≢ angle_open → b ≡ angle_close → (d : ℕ) → angle_after b d ≡ less 1 d
unfolding angle_after
angle_close_lem b o e d = rw (ne_eqb b angle_open o, eq-eqb b angle_close e, sym (sub-one d))

pub angle_other : (b : ℕ) → b ≢ angle_open → b ≢ angle_close → (d : ℕ) → angle_after b d ≡ d
unfolding angle_after
angle_other b o c d = rw (ne_eqb b angle_open o, ne_eqb b angle_close c)

pub closing-all : (n next i : ℕ) (xs : List Group) → Stack xs next i → Closing n n next i xs xs
closing-all n next i xs s = record { stack = s; depth = λ j h. refl }

-- while brackets are closed: there is no group, or the last one is closed, or what is left is closed in it
module _ (n left next i : ℕ) (xs : List Group) where
  -- brackets of which some are left, and then these
  pub closing_then : (ys zs : List Group) → Closing n left next i xs ys → Turned (less left) next i ys zs → Turned (less n) next i xs zs
  closing_then ys zs c t = record { stack = t.stack; depth = λ j h. c.depth j h ∙ t.depth j h }

  pub closing-none : (ys : List Group) → last_of ys ≡ None → Closing n left next i xs ys → Turned (less n) next i xs ys
  unfolding above
  closing-none [] e c = record { stack = c.stack; depth = λ j h. (let d = c.depth j h in omega (arith, d)) }
  closing-none (y ∷ ys) e c = absurd (none-some y (sym e))

  module _ (x : Group) where
    pub closing_group : (ys : List Group) → last_of ys ≡ Some x → x.size ≤ left → Closing n left next i xs ys → Closing n (left - x.size) next i xs (others_of ys)
    closing_group [] e l c = absurd (none-some x e)
    closing_group (y ∷ ys) e l c =
        let z = ap (λ (g : Group). g.size) (same_Some y x e) in
        let t = closed_whole next i y ys c.stack in
        record { stack = t.stack; depth = λ j h. (let d = c.depth j h in let b = t.depth j h in omega (arith, d, b, l, z)) }

    pub closing-rest : (ys : List Group) → last_of ys ≡ Some x → left < x.size → Closing n left next i xs ys
        → Turned (less n) next i xs (resized (x.size - left) ys)
    closing-rest [] e l c = absurd (none-some x e)
    closing-rest (y ∷ ys) e l c =
        let same = same_Some y x e in
        let t = sized_less next i y ys c.stack left (omega (arith, l, ap (λ (g : Group). g.size) same)) in
        let u = closing_then (y ∷ ys) (resized (y.size - left) (y ∷ ys)) c t in
        subst (λ (g : Group). Turned (less n) next i xs (resized (g.size - left) (y ∷ ys))) same u
