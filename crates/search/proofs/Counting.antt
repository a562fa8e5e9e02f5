-- What a step past a byte does to the search for a partner, where closing brackets were met that close nothing.
use Prim.Native.Nat.{ℕ, ◌+◌, ◌-◌, ◌≤◌, ◌<◌}
use Rattle.std.specs.Prelude.{◌≡◌, ◌≢◌, List, drop, length, get_or}
use Rattle.std.proofs.Common.{ap, ◌∙◌, arith}
use Rattle.source_rules.specs.Brackets.{partner}
use Rattle.source_rules.proofs.WalkSteps.{partner_close, partner_open, partner-other}

-- one with at least `closed` open inside it is sought on so
pub record Sought (s : List ℕ) (opening closing from closed opened at : ℕ) : Type 0 where
  pub few : closed + opened ≤ at - from
  pub same : (m : ℕ) → closed ≤ m → partner opening closing m from (drop from s) ≡ partner opening closing (m - closed + opened) at (drop at s)

module _ (s : List ℕ) (opening closing from closed opened at : ℕ) (differ : opening ≢ closing) (k : Sought s opening closing from closed opened at) (l : from ≤ at) (h : at < length s) where
  pub opens : get_or s at 0 ≡ opening → Sought s opening closing from closed (opened + 1) (at + 1)
  opens e =
      record {
        few = omega (arith, k.few);
        same = λ m i.
            let e₁ : m - closed + opened + 1 ≡ m - closed + (opened + 1) = omega arith in
            k.same m i ∙ partner_open s at h opening closing (m - closed + opened) differ e ∙ ap (λ d. partner opening closing d (at + 1) (drop (at + 1) s)) e₁;
      }

  pub closes_none : get_or s at 0 ≡ closing → opened ≡ 0 → Sought s opening closing from (closed + 1) opened (at + 1)
  closes_none e z =
      record {
        few = omega (arith, k.few);
        same = λ m i.
            let e₁ : m - closed + opened - 1 ≡ m - (closed + 1) + opened = omega arith in
            k.same m (omega arith)
            ∙ partner_close s at h opening closing (m - closed + opened) differ e (λ z. omega arith)
            ∙ ap (λ d. partner opening closing d (at + 1) (drop (at + 1) s)) e₁;
      }

  pub closes_one : (left : ℕ) → get_or s at 0 ≡ closing → left + 1 ≡ opened → Sought s opening closing from closed left (at + 1)
  closes_one left e n =
      record {
        few = omega (arith, k.few, n);
        same = λ m i.
            let e₁ : m - closed + opened - 1 ≡ m - closed + left = omega (arith, n) in
            k.same m i
            ∙ partner_close s at h opening closing (m - closed + opened) differ e (λ z. omega (arith, z, n))
            ∙ ap (λ d. partner opening closing d (at + 1) (drop (at + 1) s)) e₁;
      }

  pub passes_other : get_or s at 0 ≢ opening → get_or s at 0 ≢ closing → Sought s opening closing from closed opened (at + 1)
  passes_other m n =
      record {
        few = omega (arith, k.few);
        same = λ d i. k.same d i ∙ partner-other s at h opening closing (d - closed + opened) m n;
      }

pub sought_first : (s : List ℕ) (opening closing from : ℕ) → Sought s opening closing from 0 0 from
sought_first s opening closing from =
    record {
      few = omega arith;
      same = λ m i. let e : m ≡ m - 0 + 0 = omega arith in ap (λ d. partner opening closing d from (drop from s)) e;
    }
