-- What blank, scan and report answer.
use Rattle.std.specs.Prelude.{ℕ, zero, suc}

-- the number, 0 on success, the bytes written and the count of functions
pub record Answer : Type 0 where
  pub number : ℕ
  pub written : ℕ
  pub functions : ℕ

-- a refusal's counts are 0
abbrev pub answer_at : ℕ → (written functions : ℕ) → Answer
answer_at (suc n) written functions = record { number = suc n; written = 0; functions = 0 }
answer_at zero written functions = record { number = 0; written = written; functions = functions }
