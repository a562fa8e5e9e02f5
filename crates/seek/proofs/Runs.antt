-- A place is the end of a run where the bytes before it pass a test and the one there does not.
use Rattle.std.specs.Prelude.{ℕ, zero, suc, ◌+◌, ◌-◌, ◌<◌, ◌≤◌, ltb, ◌≡◌, Bool, true, false, List, length, drop, get_or}
use Rattle.std.proofs.Common.{sym, subst, inl, inr, arith, ltb-true, ltb-false}
use Rattle.text_rules.specs.BytesLaws.{whether}
use Rattle.text_rules.specs.Search.{run}
use Rattle.text_rules.proofs.ScanLaws.{run_end, run_more, run-stop}

module _ (p : ℕ → Bool) (s : List ℕ) (to : ℕ) (inside : to ≤ length s) (ends : to < length s → false ≡ p (get_or s to 0)) where
  none_here : run p (drop to s) ≡ 0
  none_here =
      elim (whether (ltb to (length s))) [
        | inl t ↦ (let h = ltb-true to (length s) t in run-stop s to h p (sym (ends h)))
        | inr t ↦ run_end s to p (ltb-false to (length s) t)
      ]

  -- so many bytes before the end of the run
  before_end : (n from : ℕ) → from + n ≡ to → ((k : ℕ) → from ≤ k → k < to → true ≡ p (get_or s k 0)) → to ≡ from + run p (drop from s)
  before_end zero from e passed =
      let same : to ≡ from = omega (arith, e) in
      subst (λ k. to ≡ k + run p (drop k s)) same (omega (arith, none_here))
  before_end (suc n) from e passed =
      let more = run_more s from (omega (arith, e)) p (sym (passed from (omega arith) (omega (arith, e)))) in
      let next = before_end n (from + 1) (omega (arith, e)) (λ k l. passed k (omega (arith, l))) in
      omega (arith, more, next)

  pub run_to : (from : ℕ) → from ≤ to → ((k : ℕ) → from ≤ k → k < to → true ≡ p (get_or s k 0)) → to ≡ from + run p (drop from s)
  run_to from h passed = before_end (to - from) from (omega arith) passed
