-- Paths byte by byte, as a loop over two of them needs it.
use Rattle.std.specs.Prelude.{ℕ, ◌+◌, ◌<◌, ◌≤◌, ◌≡◌, true, ◌&&◌, ◌||◌, eqb, ltb, length, drop, get_or}
use Rattle.std.proofs.Math.Path.{refl, ap, ap₂}
use Rattle.std.proofs.Common.{◌∙◌, arith, eq-eqb, le-ltb, lt-ltb, ne_eqb, drop_of_length-le}
use Rattle.std.proofs.Math.Bool.{false}
use mathlib.Core.List.{List, [], ◌∷◌}
use Rattle.std.proofs.Math.Numerals.{add-one}
use Rattle.std.proofs.Math.Seq.{drop-cons}
use Rattle.text_rules.specs.Classes.{lf, slash, tab}
use Rattle.text_rules.specs.Search.{has}
use Rattle.text_rules.specs.Utf8.{is_utf8}
use Rattle.gate_rules.specs.Functions.{is_comment}
use Rattle.gate_rules.specs.Tree.{is_path, path_before, rank}

module _ (s : List ℕ) (at : ℕ) where
  pub has-step : (x : ℕ) → at < length s → has x (drop at s) ≡ (eqb (get_or s at 0) x || has x (drop (at + 1) s))
  unfolding has
  has-step x h = rw (add-one at, drop-cons s at 0 h)

  pub has_end : (x : ℕ) → length s ≤ at → has x (drop at s) ≡ false
  unfolding has
  has_end x h = ap (has x) (drop_of_length-le s h)

module _ (p q : List ℕ) (at : ℕ) where
  pub before-step : at < length p → at < length q
      → path_before (drop at p) (drop at q) ≡ (ltb (rank (get_or p at 0)) (rank (get_or q at 0)) || (eqb (get_or p at 0) (get_or q at 0) && path_before (drop (at + 1) p) (drop (at + 1) q)))
  unfolding path_before
  before-step h k = rw (add-one at) (ap₂ path_before (drop-cons p at 0 h) (drop-cons q at 0 k))

  -- a path that ends stands before one that goes on
  pub before_shorter : length p ≤ at → at < length q → path_before (drop at p) (drop at q) ≡ true
  unfolding path_before
  before_shorter h k = ap₂ path_before (drop_of_length-le p h) (drop-cons q at 0 k)

  pub before_longer : length q ≤ at → path_before (drop at p) (drop at q) ≡ false
  unfolding path_before
  before_longer h = ap (path_before (drop at p)) (drop_of_length-le q h) ∙ none_before (drop at p)
    where
      none_before : (r : List ℕ) → path_before r [] ≡ false
      none_before [] = refl
      none_before (b ∷ r) = refl

-- the first byte, if there is one
pub comment-none : (s : List ℕ) → length s ≡ 0 → is_comment s ≡ false
unfolding is_comment
comment-none [] h = refl
comment-none (b ∷ s) h = absurd (omega arith)

pub comment-first : (s : List ℕ) → (length s ≡ 0 → ⊥) → is_comment s ≡ eqb (get_or s 0 0) 35
unfolding is_comment
comment-first [] h = absurd (h refl)
comment-first (b ∷ s) h = refl

-- the order of a byte
module _ (b : ℕ) where
  pub rank-slash : b ≡ slash → rank b ≡ 0
  unfolding rank
  rank-slash e = rw (eq-eqb b slash e)

  pub rank-other : (b ≡ slash → ⊥) → rank b ≡ b + 1
  unfolding rank
  rank-other n = rw (ne_eqb b slash n, add-one b)

-- the ways that code goes through the tests of a path
module _ (path : List ℕ) where
  pub path-tab : has tab path ≡ true → is_path path ≡ false
  unfolding is_path
  path-tab t = rw t

  module _ (e₁ : has tab path ≡ false) where
    pub path-lf : has lf path ≡ true → is_path path ≡ false
    unfolding is_path
    path-lf t = rw (e₁, t)

    module _ (e₂ : has lf path ≡ false) where
      pub path-comment : is_comment path ≡ true → is_path path ≡ false
      unfolding is_path
      path-comment t = rw (e₁, e₂, t)

      pub path-last : is_comment path ≡ false → is_path path ≡ is_utf8 path
      unfolding is_path
      path-last t = rw (e₁, e₂, t)

-- the ways that code goes through a step
module _ (s : List ℕ) (at x : ℕ) (h : at < length s) where
  pub has-found : get_or s at 0 ≡ x → has x (drop at s) ≡ true
  has-found e = has-step s at x h ∙ rw (eq-eqb (get_or s at 0) x e)

  pub has-next : (get_or s at 0 ≡ x → ⊥) → has x (drop at s) ≡ has x (drop (at + 1) s)
  has-next n = has-step s at x h ∙ rw (ne_eqb (get_or s at 0) x n)

module _ (p q : List ℕ) (at : ℕ) (h : at < length p) (k : at < length q) where
  pub before_lower : rank (get_or p at 0) < rank (get_or q at 0) → path_before (drop at p) (drop at q) ≡ true
  before_lower l = before-step p q at h k ∙ rw (lt-ltb (rank (get_or p at 0)) (rank (get_or q at 0)) l)

  pub before-other : rank (get_or q at 0) ≤ rank (get_or p at 0) → (get_or p at 0 ≡ get_or q at 0 → ⊥) → path_before (drop at p) (drop at q) ≡ false
  before-other l n = before-step p q at h k ∙ rw (le-ltb (rank (get_or p at 0)) (rank (get_or q at 0)) l, ne_eqb (get_or p at 0) (get_or q at 0) n)

  pub before_same : rank (get_or q at 0) ≤ rank (get_or p at 0) → get_or p at 0 ≡ get_or q at 0 → path_before (drop at p) (drop at q) ≡ path_before (drop (at + 1) p) (drop (at + 1) q)
  before_same l e = before-step p q at h k ∙ rw (le-ltb (rank (get_or p at 0)) (rank (get_or q at 0)) l, eq-eqb (get_or p at 0) (get_or q at 0) e)
