-- A text at a place, as a loop over a slice reads it: at the place `i` the loop has the byte `get_or s i 0` and goes on over `drop (i + 1) s`.
-- Places are counted as in code, by `i + 1`.
use Rattle.std.specs.Prelude.{ℕ, zero, suc, ◌+◌, ◌-◌, ◌≤◌, ◌<◌, min, ◌≡◌, refl, ◌≢◌, Bool, true, false, not, ◌&&◌, List, [], ◌∷◌, eqb, length, take, drop, get_or}
use Rattle.std.proofs.Common.{ap, add-zero, add-one, arith, drop_of_length-le, length-drop, drop-cons, take_all, eq-eqb, ne_eqb}
use Rattle.std.proofs.Math.Seq.{get_or-drop, take-nil}
use Rattle.text_rules.specs.Bytes.{◌or_else◌}
use Rattle.text_rules.specs.Search.{bytes_before, opens, run}

-- the text from a place on is the byte there and the text from the next place on
pub split : (s : List ℕ) (i : ℕ) → i < length s → drop i s ≡ get_or s i 0 ∷ drop (i + 1) s
split s i h = rw (add-one, drop-cons s i 0)

-- one step of a run, and its end
module _ (s : List ℕ) (i : ℕ) where
  module _ (h : i < length s) where
    module _ (f : ℕ → Bool) where
      pub run_more : f (get_or s i 0) ≡ true → run f (drop i s) ≡ suc (run f (drop (i + 1) s))
      unfolding run
      run_more e = rw (split s i h, e, run)

      pub run-stop : f (get_or s i 0) ≡ false → run f (drop i s) ≡ 0
      unfolding run
      run-stop e = rw (split s i h, e, run)

    pub bytes_before-more : (x : ℕ) → get_or s i 0 ≢ x → bytes_before x (drop i s) ≡ suc (bytes_before x (drop (i + 1) s))
    bytes_before-more x e = run_more (λ (b : ℕ). not (eqb b x)) (rw (ne_eqb (get_or s i 0) x e))

    pub bytes_before-stop : (x : ℕ) → get_or s i 0 ≡ x → bytes_before x (drop i s) ≡ 0
    bytes_before-stop x e = run-stop (λ (b : ℕ). not (eqb b x)) (rw (eq-eqb (get_or s i 0) x e))

  pub run_end : (f : ℕ → Bool) → length s ≤ i → run f (drop i s) ≡ 0
  unfolding run
  run_end f h = rw (drop_of_length-le s h)

-- bytes at a place and around it
module _ (s : List ℕ) (i : ℕ) where
  pub head_at : get_or (drop i s) 0 0 ≡ get_or s i 0
  head_at = rw (get_or-drop i s 0 0, add-zero i)

  pub opens_at : (x y : ℕ) → opens x y (drop i s) ≡ (eqb (get_or s i 0) x && eqb (get_or s (i + 1) 0) y)
  unfolding opens
  opens_at x y = rw (head_at, get_or-drop i s 1 0)

  -- the part from a place to the end
  pub rest_part : take (length s - i) (drop i s) ≡ drop i s
  rest_part = take_all (length s - i) (drop i s) (omega (arith, length-drop i s))

-- the byte before a place, where a 0 stands before the text
pub before-place : (s : List ℕ) (i : ℕ) → i ≢ 0 → get_or (0 ∷ s) i 0 ≡ get_or s (i - 1) 0
before-place s zero h = absurd (h refl)
before-place s (suc i) h = let e : i ≡ suc i - 1 = omega arith in ap (λ (k : ℕ). get_or s k 0) e

-- of two counts, only what the list holds matters
pub take_same : (a b : ℕ) (s : List ℕ) → min a (length s) ≡ min b (length s) → take a s ≡ take b s
take_same a b [] e = rw (take-nil a, take-nil b)
take_same zero zero (x ∷ s) e = refl
take_same zero (suc b) (x ∷ s) e = absurd (omega arith)
take_same (suc a) zero (x ∷ s) e = absurd (omega arith)
take_same (suc a) (suc b) (x ∷ s) e = ap (λ (r : List ℕ). x ∷ r) (take_same a b s (omega arith))

-- the first number that is not 0
pub or_else-some : (m n : ℕ) → 0 < m → (m or_else n) ≡ m
or_else-some zero n h = absurd (omega arith)
or_else-some (suc m) n h = refl

pub or_else-none : (m n : ℕ) → m ≡ 0 → (m or_else n) ≡ n
or_else-none m n h = rw h

pub or_else_zero : (m : ℕ) → (m or_else 0) ≡ m
or_else_zero zero = refl
or_else_zero (suc m) = refl

pub or_else-same : (m : ℕ) → (m or_else m) ≡ m
or_else-same zero = refl
or_else-same (suc m) = refl
