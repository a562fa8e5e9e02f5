-- A parameter list: one step of the count of its parts, of its head, and how the count is put together.
use Prim.Native.Nat.{ℕ, ◌+◌, ◌-◌, ◌≤◌, ◌<◌}
use mathlib.Core.Path.{◌≡◌, refl, ap, sym, ◌∙◌}
use mathlib.Core.Logic.{◌≢◌, inl, inr}
use mathlib.Core.Bool.{true, false, ◌||◌}
use mathlib.Core.List.{List, [], ◌∷◌}
use native.Mathlib.Omega.{arith}
use lib.Dec.{eqb}
use lib.ListN.{drop, drop_of_length-le, get_or, length}
use borrow.Author.Tests.{eq-eqb, eqb-false, eqb-true, ne_eqb}
use Rattle.text_rules.specs.BytesLaws.{whether}
use Rattle.text_rules.proofs.TextSteps.{begins-end, begins-none}
use Rattle.text_rules.specs.Classes.{ampersand, comma, space}
use Rattle.text_rules.proofs.ScanLaws.{split}
use Rattle.text_rules.specs.Search.{ends_in, part, run, starts_with}
use Rattle.text_rules.specs.WhiteSpace.{text_end, trimmed, white_end}
use Rattle.source_rules.specs.Parameters.{counted, one, params_of, parts_from, squeezed, takes_self}
use Rattle.params.specs.Head.{head}

-- the head of a byte b and the rest r
module _ (b : ℕ) (r : List ℕ) where
  stops : eqb b comma ≡ true → head (b ∷ r) ≡ []
  unfolding run squeezed
  stops e = rw (e, run)

  module _ (e : eqb b comma ≡ false) where
    leaves : (eqb b ampersand || eqb b space) ≡ true → head (b ∷ r) ≡ head r
    unfolding run squeezed
    leaves t = rw (e, run, t)

    keeps : (eqb b ampersand || eqb b space) ≡ false → head (b ∷ r) ≡ b ∷ head r
    unfolding run squeezed
    keeps t = rw (e, run, t)

-- the head from a place on
module _ (s : List ℕ) (at : ℕ) where
  pub head-end : length s ≤ at → head (drop at s) ≡ []
  unfolding run squeezed
  head-end h = ap head (drop_of_length-le s h)

  module _ (h : at < length s) where
    pub head-comma : get_or s at 0 ≡ comma → head (drop at s) ≡ []
    head-comma e = ap head (split s at h) ∙ stops (get_or s at 0) (drop (at + 1) s) (eq-eqb _ _ e)

    module _ (n : get_or s at 0 ≢ comma) where
      pub head-leaves : (eqb (get_or s at 0) ampersand || eqb (get_or s at 0) space) ≡ true → head (drop at s) ≡ head (drop (at + 1) s)
      head-leaves t = ap head (split s at h) ∙ leaves (get_or s at 0) (drop (at + 1) s) (ne_eqb _ _ n) t

      pub head-keeps : (eqb (get_or s at 0) ampersand || eqb (get_or s at 0) space) ≡ false → head (drop at s) ≡ get_or s at 0 ∷ head (drop (at + 1) s)
      head-keeps t = ap head (split s at h) ∙ keeps (get_or s at 0) (drop (at + 1) s) (ne_eqb _ _ n) t

-- the count put together
pub counted-some : (s : List ℕ) → 1 ≤ length s → counted s ≡ parts_from 1 0 0 s - one (ends_in comma s) - one (takes_self s)
counted-some [] h = absurd (omega arith)
counted-some (b ∷ s) h = refl

module _ (s : List ℕ) (from to : ℕ) (f : from ≡ white_end 0 0 s) (t : to ≡ text_end 0 0 0 s) where
  pub params-part : counted (part from to s) ≡ params_of s
  unfolding params_of trimmed
  params-part = rw (f, t)

  pub params_none : to ≤ from → params_of s ≡ 0
  params_none h = let z : to - from ≡ 0 = omega arith in sym params-part ∙ rw z

-- at the text's end the word is told if it was matched
pub told_end : (word : List ℕ) (m : ℕ) (s : List ℕ) (at : ℕ) → m ≤ length word → length s ≤ at → eqb m (length word) ≡ starts_with (drop m word) (head (drop at s))
told_end word m s at h e =
    elim (whether (eqb m (length word))) [
      | inl t ↦ t ∙ sym (begins-end word m (head (drop at s)) (omega (arith, eqb-true m (length word) t)))
      | inr t ↦ t ∙ sym (begins-none word m (omega (arith, eqb-false m (length word) t)) (head (drop at s)) (head-end s at e))
    ]
