-- No level with a pending search is left out between the first and the last chain that hold one.
use Rattle.std.proofs.Common.{ℕ, ◌+◌, ◌-◌, ◌≤◌, ◌<◌, ◌≡◌, List, length, get_or, take, drop, refl, ap, sym, ◌∙◌, inl, inr, arith, ltb, ltb-false, ltb-true}
use Rattle.std.proofs.lemmas.List.{get_or-drop, get_or-take, length-take}
use Rattle.text_rules.specs.BytesLaws.{whether}
use Rattle.bodies.specs.Crossing.{Narrows}
use Rattle.bodies.specs.declared.Searches.{Searches}

abbrev pub levels : Searches → List ℕ
levels x = take (x.high + 1 - x.low) (drop x.low x.heads)

module _ (x : Searches) (some : x.low < x.high) (most : x.high ≤ 4096) where
  at_level : (k : ℕ) → x.low ≤ k → k ≤ x.high → get_or (levels x) (k - x.low) 0 ≡ get_or x.heads k 0
  at_level k l h =
      let e : x.low + (k - x.low) ≡ k = omega arith in
      get_or-take (x.high + 1 - x.low) (drop x.low x.heads) (k - x.low) 0 (omega arith) ∙ get_or-drop x.low x.heads (k - x.low) 0 ∙ ap (λ i. get_or x.heads i 0) e

  fit : (n : ℕ) → n < length (levels x) → n ≤ x.high - x.low
  fit n h = omega (arith, h, length-take (x.high + 1 - x.low) (drop x.low x.heads))

  pub first_fits : (first : ℕ) → first < length (levels x) → x.low + first ≤ 4096
  first_fits first h = omega (arith, fit first h)

  pub narrows_between : (first last : ℕ) → first < length (levels x) → ((k : ℕ) → k < first → get_or (levels x) k 0 ≡ 0) → last < length (levels x) → ((k : ℕ) → last < k → get_or (levels x) k 0 ≡ 0)
      → Narrows x (record { told = x.told; links = x.links; heads = x.heads; pending = x.pending; low = x.low + first; high = x.low + last })
  narrows_between first last a before b behind =
      record {
        told = refl;
        links = refl;
        heads = refl;
        pending = refl;
        low-most = first_fits first a;
        high-most = first_fits last b;
        low =
            λ k n l.
            elim (whether (ltb k (x.low + first))) [
              | inl t ↦ (let h = ltb-true k (x.low + first) t in absurd (n (sym (at_level k l (omega (arith, h, fit first a))) ∙ before (k - x.low) (omega (arith, h, l)))))
              | inr t ↦ ltb-false k (x.low + first) t
            ];
        high =
            λ k n h.
            elim (whether (ltb (x.low + last) k)) [
              | inl t ↦ (let l = ltb-true (x.low + last) k t in absurd (n (sym (at_level k (omega (arith, l)) h) ∙ behind (k - x.low) (omega (arith, l)))))
              | inr t ↦ ltb-false (x.low + last) k t
            ];
      }

  pub narrows_none : ((k : ℕ) → get_or (levels x) k 0 ≡ 0)
      → Narrows x (record { told = x.told; links = x.links; heads = x.heads; pending = x.pending; low = x.high; high = x.high })
  narrows_none none =
      record {
        told = refl;
        links = refl;
        heads = refl;
        pending = refl;
        low-most = most;
        high-most = most;
        low =
            λ k n l.
            elim (whether (ltb k x.high)) [
              | inl t ↦ (let h = ltb-true k x.high t in absurd (n (sym (at_level k l (omega (arith, h))) ∙ none (k - x.low))))
              | inr t ↦ ltb-false k x.high t
            ];
        high = λ k n h. h;
      }
