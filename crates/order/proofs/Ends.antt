-- Two texts compared from their ends.
use Rattle.std.proofs.Common.{◌≡◌, ◌≢◌, ℕ, ◌≤◌, true, false, List, drop, get_or, ap, sym, ◌∙◌, inl, inr, arith}
use Rattle.text_rules.specs.Bytes.{same}
use Rattle.text_rules.specs.BytesLaws.{same_refl, same_true, whether}

-- a byte that differs
pub ends-other : (s t : List ℕ) (i : ℕ) → get_or s i 0 ≢ get_or t i 0 → same s t ≡ false
ends-other s t i n =
    elim (whether (same s t)) [
      | inl e ↦ absurd (n (ap (λ r. get_or r i 0) (same_true s t e)))
      | inr e ↦ e
    ]

pub ends-all : (s t : List ℕ) (i : ℕ) → i ≤ 0 → drop i s ≡ drop i t → same s t ≡ true
ends-all s t i h e =
    let z : i ≡ 0 = omega arith in
    let q : s ≡ t = ap (λ j. drop j s) (sym z) ∙ e ∙ ap (λ j. drop j t) z in
    ap (same s) (sym q) ∙ same_refl s
