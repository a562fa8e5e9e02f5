-- A baseline that is stale as a whole: each of its lines is plain and adds its key to the stale ones, or starts with #, as those of update's header do.
use Rattle.std.specs.Prelude.{ℕ, zero, suc, ◌+◌, ◌-◌, ◌≤◌, ◌<◌, ◌≡◌, ◌||◌, eqb, ltb, length, drop, get_or}
use Rattle.std.proofs.Math.Path.{refl}
use Rattle.std.proofs.Common.{ap, subst, sym, ◌∙◌, get_or-drop, eqb-true, ltb-false, ltb-true}
use Rattle.std.proofs.Math.Logic.{inl, inr}
use mathlib.Core.List.{List, [], ◌∷◌}
use Rattle.std.proofs.Math.Option.{Option, some}
use native.Mathlib.Omega.{arith}
use Rattle.std.proofs.lemmas.Bool.{eqb-false}
use Rattle.text_rules.specs.Bytes.{among}
use Rattle.text_rules.specs.BytesLaws.{whether}
use Rattle.text_rules.specs.Search.{bytes_before}
use Rattle.baseline.specs.Ordered.{keys_in}
use Rattle.key_lines.specs.Keys.{repeats}
use Rattle.listed_keys.specs.Plain.{AllPlain, Begins, PlainOrNote, no-mark}
use Rattle.in_order.specs.InOrder.{in_order}
use Rattle.in_order.specs.StaleKeys.{stale_in}

pub record Whole (tree lines : List ℕ) : Type 0 where
  pub all_plain : AllPlain lines
  pub all-stale : stale_in tree lines ≡ keys_in lines

-- ---- line by line

-- the lines in front of a place are plain or start with #
abbrev pub PlainTo : List ℕ → ℕ → Type 0
PlainTo s from = (i : ℕ) → Begins s i → i < from → PlainOrNote s i

module _ (s : List ℕ) (from end : ℕ) (e : end ≡ from + bytes_before 10 (drop from s)) where
  -- no line begins within another
  none_within : (i : ℕ) → Begins s i → from < i → i ≤ end → ⊥
  none_within zero b h k = omega arith
  none_within (suc j) b h k =
      let there : from + (j - from) ≡ j = omega arith in
      no-mark 10 (drop from s) (j - from) (omega (arith, e)) (get_or-drop from s (j - from) 0 ∙ ap (λ (m : ℕ). get_or s m 0) there ∙ b)

  pub plain-next : PlainTo s from → PlainOrNote s from → PlainTo s (end + 1)
  plain-next h p i b k =
      elim (whether (ltb i from)) [
        | inl t ↦ h i b (ltb-true i from t)
        | inr t ↦ elim (whether (eqb i from)) [
          | inl q ↦ subst (PlainOrNote s) (sym (eqb-true i from q)) p
          | inr q ↦ absurd (none_within i b (omega (arith, ltb-false i from t, eqb-false i from q)) (omega arith))
        ]
      ]

-- ---- no fewer stale keys than keys

module _ (live : List (List ℕ)) where
  in_order-few : (last : Option (List ℕ)) (ks : List (List ℕ)) → length (in_order live last ks) ≤ length ks
  unfolding in_order
  in_order-few last [] = omega arith
  in_order-few last (k ∷ ks) =
      let few = in_order-few (some k) ks in
      elim (whether (repeats last k || among k live)) [ inl t ↦ rw t (omega arith) | inr t ↦ rw t (omega arith) ]

  pub in_order-all : (last : Option (List ℕ)) (ks : List (List ℕ)) → length ks ≤ length (in_order live last ks) → in_order live last ks ≡ ks
  unfolding in_order
  in_order-all last [] e = refl
  in_order-all last (k ∷ ks) e =
      elim (whether (repeats last k || among k live)) [
        | inl t ↦ let e' = rw t at e in absurd (omega (arith, in_order-few (some k) ks))
        | inr t ↦ let e' = rw t at e in rw t (ap (λ js. k ∷ js) (in_order-all (some k) ks (omega arith)))
      ]
