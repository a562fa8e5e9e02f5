-- Parts of the listings by what they are made of, and their lengths in plain numbers: with these in a `requires`, that each part fits is arithmetic.
use Rattle.std.specs.Prelude.{ℕ, ◌+◌, ◌-◌, max, ◌≡◌, refl, List, [], ◌∷◌, length, replicate}
use Rattle.std.proofs.Common.{ap, ◌∙◌, arith, length-append}
use Rattle.std.proofs.lemmas.List.{length-map, length-replicate}
use Rattle.text_rules.specs.Bytes.{ascii, joined}
use Rattle.text_rules.specs.Classes.{space}
use Rattle.text_rules.specs.Decimal.{decimal}
use Rattle.text_rules.proofs.WriterLaws.{joined_length}
use Rattle.gate_rules.specs.Check.{location, spaced}
use Rattle.gate_rules.specs.Functions.{Fun}
use Rattle.gate_rules.specs.Report.{justified}

-- path:line name
abbrev pub located : List ℕ → ℕ → List ℕ → List ℕ
located path line name = joined (path ∷ ascii ":" ∷ decimal line ∷ ascii " " ∷ name ∷ [])

pub location-is : (f : Fun) → location f ≡ located f.path f.line f.name
unfolding location
location-is f = refl

abbrev pub located_length : List ℕ → ℕ → List ℕ → ℕ
located_length path line name = length path + 1 + length (decimal line) + 1 + length name

pub located-length : (path : List ℕ) (line : ℕ) (name : List ℕ) → length (located path line name) ≡ located_length path line name
located-length path line name = joined_length (path ∷ ascii ":" ∷ decimal line ∷ ascii " " ∷ name ∷ []) ∙ (omega arith)

-- how many regressions there are
abbrev pub regression_count : ℕ → List ℕ
regression_count n = joined (ascii "complexity: " ∷ decimal n ∷ ascii " regressions\n" ∷ [])

abbrev pub regression_count_length : ℕ → ℕ
regression_count_length n = 25 + length (decimal n)

pub regression_count-length : (n : ℕ) → length (regression_count n) ≡ regression_count_length n
regression_count-length n = joined_length (ascii "complexity: " ∷ decimal n ∷ ascii " regressions\n" ∷ []) ∙ (omega arith)

pub justified-length : (width : ℕ) (text : List ℕ) → length (justified width text) ≡ max width (length text)
unfolding justified
justified-length width text =
    length-append (replicate (width - length text) space) text ∙ ap (λ n. n + length text) (length-replicate (width - length text) space) ∙ (omega arith)

pub spaced-length : (key : List ℕ) → length (spaced key) ≡ length key
unfolding spaced
spaced-length key = length-map key _

-- the lengths of what stays shut, for the room that a writer needs
pub ruleset lengths = (justified-length, spaced-length)
