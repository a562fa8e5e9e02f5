-- White space at a place `at` of a text `s`: its length there, and one step of the walks to its two ends.
use Prim.Native.Nat.{ℕ, zero, suc, ◌+◌, ◌≤◌, ◌<◌}
use mathlib.Core.Path.{◌≡◌, refl, ap, sym, ◌∙◌}
use mathlib.Core.Logic.{◌≢◌, inl, inr}
use lib.Dec.{ltb}
use borrow.Author.Tests.{ltb-false, ltb-true}
use Rattle.text_rules.specs.BytesLaws.{whether}
use mathlib.Core.List.{List, [], ◌∷◌}
use native.Mathlib.Nat.{add-zero}
use native.Mathlib.Numerals.{add-one}
use native.Mathlib.Omega.{arith}
use Rattle.std.specs.Prelude.{None, Some}
use Rattle.utf8.specs.Awaits.{some_length}
use lib.ListN.{drop, drop_of_length-le, get_or, length, length-drop}
use lib.Seq.{drop-drop, get_or-drop}
use Rattle.text_rules.proofs.ScanLaws.{split}
use Rattle.text_rules.specs.Search.{opens}
use Rattle.text_rules.specs.Utf8.{within}
use Rattle.text_rules.specs.WhiteSpace.{is_wide_space, text_end, white_end, white_length}
use Rattle.text_rules.proofs.WhiteSpaceLaws.{text_skip_left, white_inside, white_skip_left}

-- only the first three bytes matter
three_bytes : (t : List ℕ) → white_length t ≡ white_length (get_or t 0 0 ∷ get_or t 1 0 ∷ get_or t 2 0 ∷ [])
unfolding white_length opens
three_bytes t = refl

pub white_at : (s : List ℕ) (at : ℕ) → white_length (drop at s) ≡ white_length (get_or s at 0 ∷ get_or s (at + 1) 0 ∷ get_or s (at + 2) 0 ∷ [])
white_at s at = three_bytes (drop at s) ∙ rw (get_or-drop at s 0 0, get_or-drop at s 1 0, get_or-drop at s 2 0, add-zero at)

pub white_past : (s : List ℕ) (at : ℕ) → length s ≤ at → white_length (drop at s) ≡ 0
unfolding white_length opens within is_wide_space
white_past s at h = ap white_length (drop_of_length-le s h)

-- a character of white space does not leave the text
pub white_room : (s : List ℕ) (at : ℕ) → at ≤ length s → at + white_length (drop at s) ≤ length s
white_room s at h = omega (arith, white_inside (drop at s), length-drop at s)

-- the walks over a byte b and the rest r
module _ (b : ℕ) (r : List ℕ) where
  white_none : (at : ℕ) → white_length (b ∷ r) ≡ 0 → white_end at 0 (b ∷ r) ≡ at
  unfolding white_end
  white_none at e = rw (e, white_end)

  text-none : (end at : ℕ) → white_length (b ∷ r) ≡ 0 → text_end end at 0 (b ∷ r) ≡ text_end (suc at) (suc at) 0 r
  unfolding text_end
  text-none end at e = rw (e, text_end)

  module _ (m : ℕ) (e : white_length (b ∷ r) ≡ suc m) where
    inside : m ≤ length r
    inside = omega (arith, white_inside (b ∷ r))

    white_some : (at : ℕ) → white_end at 0 (b ∷ r) ≡ white_end (suc at + m) 0 (drop m r)
    unfolding white_end
    white_some at = rw (e, white_end) (white_skip_left (suc at) m r inside)

    text-some : (end at : ℕ) → text_end end at 0 (b ∷ r) ≡ text_end end (suc at + m) 0 (drop m r)
    unfolding text_end
    text-some end at = rw (e, text_end) (text_skip_left end (suc at) m r inside)

module _ (s : List ℕ) (at : ℕ) (h : at < length s) where
  abbrev b : ℕ
  b = get_or s at 0

  abbrev rest : List ℕ
  rest = drop (at + 1) s

  pub white_stop : white_length (drop at s) ≡ 0 → white_end at 0 (drop at s) ≡ at
  white_stop e = ap (white_end at 0) (split s at h) ∙ white_none b rest at (ap white_length (sym (split s at h)) ∙ e)

  pub text-other : (end : ℕ) → white_length (drop at s) ≡ 0 → text_end end at 0 (drop at s) ≡ text_end (at + 1) (at + 1) 0 (drop (at + 1) s)
  text-other end e = ap (text_end end at 0) (split s at h) ∙ text-none b rest end at (ap white_length (sym (split s at h)) ∙ e) ∙ rw (add-one at)

  module _ (m : ℕ) (e : white_length (drop at s) ≡ suc m) where
    here : white_length (b ∷ rest) ≡ suc m
    here = ap white_length (sym (split s at h)) ∙ e

    behind : drop m rest ≡ drop (at + suc m) s
    behind = let k : at + 1 + m ≡ at + suc m = omega arith in drop-drop m (at + 1) s ∙ ap (λ i. drop i s) k

    count : suc at + m ≡ at + suc m
    count = omega arith

    white_jump : white_end at 0 (drop at s) ≡ white_end (at + suc m) 0 (drop (at + suc m) s)
    white_jump = ap (white_end at 0) (split s at h) ∙ white_some b rest m here at ∙ rw (behind, count)

    text_jump : (end : ℕ) → text_end end at 0 (drop at s) ≡ text_end end (at + suc m) 0 (drop (at + suc m) s)
    text_jump end = ap (text_end end at 0) (split s at h) ∙ text-some b rest m here end at ∙ rw (behind, count)

  pub white_step : (n : ℕ) → n ≡ white_length (drop at s) → n ≢ 0 → white_end at 0 (drop at s) ≡ white_end (at + n) 0 (drop (at + n) s)
  white_step zero e z = absurd (z refl)
  white_step (suc m) e z = white_jump m (sym e)

  pub text-step : (end n : ℕ) → n ≡ white_length (drop at s) → n ≢ 0 → text_end end at 0 (drop at s) ≡ text_end end (at + n) 0 (drop (at + n) s)
  text-step end zero e z = absurd (z refl)
  text-step end (suc m) e z = text_jump m (sym e) end

module _ (s : List ℕ) (at : ℕ) (h : length s ≤ at) where
  pub white_last : white_end at 0 (drop at s) ≡ at
  unfolding white_end
  white_last = ap (white_end at 0) (drop_of_length-le s h)

  pub text-last : (end : ℕ) → text_end end at 0 (drop at s) ≡ end
  unfolding text_end
  text-last end = ap (text_end end at 0) (drop_of_length-le s h)

-- what a length tells that is none for 0
pub no_length : (w : ℕ) → None ≡ some_length w → w ≡ 0
no_length zero e = refl
no_length (suc w) e = cc

pub a_length : (w n : ℕ) → Some n ≡ some_length w → (n ≡ w) × (w ≢ 0)
a_length zero n e = cc
a_length (suc w) n e = let z : n ≡ suc w = cc in (z, λ y. omega arith)

-- where no white space stands, at the text's end too
pub white_done : (s : List ℕ) (at : ℕ) → None ≡ some_length (white_length (drop at s)) → white_end at 0 (drop at s) ≡ at
white_done s at e =
    elim (whether (ltb at (length s))) [
      | inl t ↦ white_stop s at (ltb-true at (length s) t) (no_length _ e)
      | inr t ↦ white_last s at (ltb-false at (length s) t)
    ]
