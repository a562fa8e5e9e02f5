-- What the code tells of a character: the row of the table for its first byte, and its length.
use Rattle.std.specs.Prelude.{ℕ, zero, suc, ◌+◌, ◌≤◌, ◌≡◌, false, List, [], ◌∷◌, length, drop, Option, None, Some}
use Rattle.text_rules.specs.Utf8.{Follow, Range, ◌to◌, by, follow, ill_formed, is_utf8}
use Rattle.utf8.specs.declared.Awaited.{Awaited}

-- n ranges from 0x80 to 0xBF
abbrev pub tails : ℕ → List Range
tails zero = []
tails (suc n) = 0x80 to 0xBF ∷ tails n

-- the row that the code's numbers stand for
abbrev pub row_of : (count low high : ℕ) → Follow
row_of zero low high = ill_formed
row_of (suc n) low high = by (low to high ∷ tails n)

-- the row that the code tells; none is that of an ill-formed first byte
abbrev pub told : Option Awaited → Follow
told None = ill_formed
told (Some a) = row_of a.count a.low a.high

-- one to three bytes follow, and none of them is ASCII
pub record Asked (a : Awaited) : Type 0 where
  pub some : 1 ≤ a.count
  pub short : a.count ≤ 3
  pub high : 128 ≤ a.low

abbrev pub AskedIf : Option Awaited → Type 0
AskedIf None = Unit {0}
AskedIf (Some a) = Asked a

-- the row of a first byte
pub record Row (b : ℕ) (o : Option Awaited) : Type 0 where
  pub row_is : told o ≡ follow b
  pub asked : AskedIf o

-- n is the length of the well-formed character that stands at a place
pub record Whole (s : List ℕ) (at n : ℕ) : Type 0 where
  pub long : 1 ≤ n
  pub well : is_utf8 (drop at s) ≡ is_utf8 (drop (at + n) s)
  pub inside : at + n ≤ length s

-- none where the text from a place on begins with no well-formed character; else the length of one that stands there
abbrev pub Character : List ℕ → ℕ → Option ℕ → Type 0
Character s at None = is_utf8 (drop at s) ≡ false
Character s at (Some n) = Whole s at n

-- a length, none for 0
abbrev pub some_length : ℕ → Option ℕ
some_length zero = None
some_length (suc n) = Some (suc n)
