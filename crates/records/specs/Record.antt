-- A record by value: its eight numbers in their order, and that they are the ones whose bytes begin at a place.
use Rattle.std.specs.Prelude.{ℕ, ◌+◌, ◌≡◌, List, [], ◌∷◌}
use Rattle.text_rules.specs.U32.{u32_at}
use Rattle.records.specs.declared.Record.{Record}

abbrev pub numbers : Record → List ℕ
numbers r = r.file ∷ r.start ∷ r.len ∷ r.line ∷ r.lines ∷ r.cyclomatic ∷ r.nesting ∷ r.params ∷ []

pub record ReadAt (s : List ℕ) (at : ℕ) (r : Record) : Type 0 where
  pub file-is : r.file ≡ u32_at s at
  pub start_is : r.start ≡ u32_at s (at + 4)
  pub len_is : r.len ≡ u32_at s (at + 8)
  pub line-is : r.line ≡ u32_at s (at + 12)
  pub lines-is : r.lines ≡ u32_at s (at + 16)
  pub cyclomatic-is : r.cyclomatic ≡ u32_at s (at + 20)
  pub nesting-is : r.nesting ≡ u32_at s (at + 24)
  pub params_is : r.params ≡ u32_at s (at + 28)
