-- Where the search for functions stands in a text.
use Rattle.std.specs.Prelude.{ℕ, List}

-- the byte to look at next and its line; the end of the last test span, and of the last body; no test span begins from `at` up to `spanless`, and no name
-- that ends from `barren_from` up to `barren_to` is a function's
pub record State : Type 0 where
  pub text : List ℕ
  pub at : ℕ
  pub line : ℕ
  pub span_end : ℕ
  pub resume : ℕ
  pub spanless : ℕ
  pub barren_from : ℕ
  pub barren_to : ℕ
