-- What the records tell of a file's sum.
use Rattle.std.specs.Prelude.{ℕ, List, eqb, get_or}
use Rattle.text_rules.specs.Bytes.{if◌then◌otherwise◌, total}

-- the cyclomatic number of a record, if it is of the file with the number
unfoldable pub share_of : ℕ → List ℕ → ℕ
share_of number r = if eqb (get_or r 0 0) number then get_or r 5 0 otherwise 0

abbrev pub sum_over : ℕ → List (List ℕ) → ℕ
sum_over number rs = total (share_of number) rs
