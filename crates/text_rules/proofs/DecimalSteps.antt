-- Decimal by its last digit, as division gives it: a number below 10 is one digit, any other is that of its tenth with one digit more.
use Rattle.std.specs.Prelude.{ℕ, zero, suc, ◌+◌, ◌/◌, ◌%◌, ◌≤◌, ◌<◌, ◌≡◌, [], ◌∷◌, ◌++◌, ltb, length}
use Rattle.std.proofs.Common.{ap, sym, ◌∙◌, inl, inr, arith, mod-eq_of_lt, length-append, ltb-true, ltb-false, lt-ltb, le-ltb}
use Rattle.text_rules.specs.BytesLaws.{whether}
use Rattle.text_rules.specs.Decimal.{decimal, digits}
use Rattle.text_rules.proofs.DecimalLaws.{digits_more, digits-one}

digits-small : (places n : ℕ) → n < 10 → digits places n ≡ (48 + n) ∷ []
unfolding digits
digits-small zero n h = ap (λ k. (48 + k) ∷ []) (mod-eq_of_lt h)
digits-small (suc places) n h = digits-one places n (lt-ltb n 10 h)

-- places beyond those that a number needs change nothing
digits-enough : (p q n : ℕ) → n ≤ p → n ≤ q → digits p n ≡ digits q n
digits-enough zero q n h k = let small : n < 10 = omega arith in digits-small zero n small ∙ sym (digits-small q n small)
digits-enough (suc p) zero n h k = let small : n < 10 = omega arith in digits-small (suc p) n small ∙ sym (digits-small zero n small)
digits-enough (suc p) (suc q) n h k =
    elim (whether (ltb n 10)) [
      | inl e ↦ digits-one p n e ∙ sym (digits-one q n e)
      | inr e ↦
          let big : 10 ≤ n = ltb-false n 10 e in
          digits_more p n e ∙ ap (λ s. s ++ (48 + n % 10) ∷ []) (digits-enough p q (n / 10) (omega arith) (omega arith)) ∙ sym (digits_more q n e)
    ]

pub decimal-one : (n : ℕ) → n < 10 → decimal n ≡ (48 + n) ∷ []
unfolding decimal
decimal-one n h = digits-small n n h

pub decimal-more : (n : ℕ) → 10 ≤ n → decimal n ≡ decimal (n / 10) ++ (48 + n % 10) ∷ []
unfolding decimal
decimal-more zero h = absurd (omega arith)
decimal-more (suc n) h =
    digits_more n (suc n) (le-ltb (suc n) 10 h) ∙ ap (λ s. s ++ (48 + suc n % 10) ∷ []) (digits-enough n (suc n / 10) (suc n / 10) (omega arith) (omega arith))

pub length-one : (n : ℕ) → n < 10 → length (decimal n) ≡ 1
length-one n h = ap length (decimal-one n h)

pub length_more : (n : ℕ) → 10 ≤ n → length (decimal n) ≡ length (decimal (n / 10)) + 1
length_more n h = ap length (decimal-more n h) ∙ length-append (decimal (n / 10)) ((48 + n % 10) ∷ [])

-- a number has a digit
pub length_some : (n : ℕ) → 1 ≤ length (decimal n)
length_some n = elim (whether (ltb n 10)) [
  | inl e ↦ omega (arith, length-one n (ltb-true n 10 e))
  | inr e ↦ omega (arith, length_more n (ltb-false n 10 e))
]
