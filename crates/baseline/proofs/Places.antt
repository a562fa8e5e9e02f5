-- The next place of a byte, by the bytes that were passed.
use Rattle.std.proofs.Common.{◌≡◌, ◌≢◌, ℕ, ◌+◌, ◌≤◌, ◌<◌, List, length, get_or, drop, ltb, not, eqb, inl, inr, arith, ltb-true, ltb-false}
use Rattle.text_rules.specs.BytesLaws.{whether}
use Rattle.text_rules.specs.Search.{bytes_before}
use Rattle.text_rules.proofs.ScanLaws.{bytes_before-stop, run_end}
use Rattle.blocks.proofs.Pieces.{passed_by}

-- a place with no `x` before it is the next `x`, if an `x` stands there or the text ends
pub next_is : (x : ℕ) (s : List ℕ) (from to : ℕ) → from ≤ to → to ≤ length s → ((k : ℕ) → from ≤ k → k < to → get_or s k 0 ≢ x)
    → (to < length s → get_or s to 0 ≡ x) → to ≡ from + bytes_before x (drop from s)
next_is x s from to low high none here =
    elim (whether (ltb to (length s))) [
      | inl t ↦ let h : to < length s = ltb-true to (length s) t in omega (arith, passed_by s x from to low high none, bytes_before-stop s to h x (here h))
      | inr t ↦ omega (arith, passed_by s x from to low high none, run_end s to (λ (b : ℕ). not (eqb b x)) (ltb-false to (length s) t))
    ]
