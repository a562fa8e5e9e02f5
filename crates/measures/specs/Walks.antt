-- What the code tells of a body and of its pieces.
use Rattle.std.specs.Prelude.{ℕ, ◌+◌, ◌≤◌, ◌≡◌, List, length, drop, Option, None, Some}
use Rattle.std.proofs.Math.Option.{Option as MathOption, none, some}
use Rattle.text_rules.specs.Classes.{brace_close, brace_open}
use Rattle.text_rules.specs.Search.{part}
use Rattle.source_rules.specs.Brackets.{partner}
use Rattle.source_rules.specs.Measures.{cyclomatic_of, decides, lines_of, nesting_of, piece_length}
use Rattle.measures.specs.declared.Body.{Body}
use Rattle.measures.specs.declared.Piece.{Piece}
use Rattle.measures.specs.declared.Walked.{Walked}

pub record PieceAt (body : List ℕ) (at : ℕ) (r : Piece) : Type 0 where
  pub end_is : r.end ≡ at + piece_length (drop at body)
  pub decides-is : r.decides ≡ decides (drop at body)
  pub inside : r.end ≤ length body

-- the measures of a body
pub record Measured (r : Walked) (body : List ℕ) : Type 0 where
  pub cyclomatic-is : r.cyclomatic ≡ cyclomatic_of body
  pub nesting-is : r.nesting ≡ nesting_of body
  pub lines-is : r.lines ≡ lines_of body

-- where a body ends
abbrev pub end_of : Option Body → MathOption ℕ
end_of (Some b) = some b.end
end_of None = none

-- a body that ends is measured from its opening brace through its closing one
abbrev pub MeasuredAt : List ℕ → ℕ → Option Body → Type 0
MeasuredAt s from (Some b) = Measured b.measures (part from (b.end + 1) s)
MeasuredAt s from None = Unit {0}

-- the body whose opening brace stands at a place ends at the brace's partner
pub record WalkedFrom (s : List ℕ) (from : ℕ) (r : Option Body) : Type 0 where
  pub end_is : end_of r ≡ partner brace_open brace_close 0 (from + 1) (drop (from + 1) s)
  pub measured : MeasuredAt s from r
