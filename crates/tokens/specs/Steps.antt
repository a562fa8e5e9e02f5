-- What a step from a place of a text ensures.
use Rattle.std.specs.Prelude.{◌≡◌, List, ℕ, ◌+◌, ◌≤◌, length, Option, None, Some}
use Rattle.tokens.specs.declared.Cursor.{Cursor}

-- from a place `at` of a text, n bytes on
pub record Steps (text : List ℕ) (at n next : ℕ) : Type 0 where
  pub place : next ≡ at + n
  pub inside : next ≤ length text

-- one byte on at least
pub record StepsOn (text : List ℕ) (at n next : ℕ) : Type 0 where
  pub some : 1 ≤ n
  pub place : next ≡ at + n
  pub inside : next ≤ length text

-- a token of n bytes, one at least, opens at a place, or none does, and n is 0
abbrev pub Found : (text : List ℕ) (at n : ℕ) → Option Cursor → Type 0
Found text at n None = n ≡ 0
Found text at n (Some next) = StepsOn text at n next.at
