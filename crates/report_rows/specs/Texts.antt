-- The parts of the report's listing, and their lengths in plain numbers.
use Rattle.std.specs.Prelude.{ℕ, ◌+◌, max, ◌≡◌, List, [], ◌∷◌, ◌++◌, length}
use Rattle.std.proofs.Common.{ap, ◌∙◌, append_assoc, append-nil, arith}
use Rattle.text_rules.specs.Bytes.{ascii, joined}
use Rattle.text_rules.specs.Decimal.{decimal}
use Rattle.text_rules.proofs.WriterLaws.{joined_length}
use Rattle.gate_rules.specs.Check.{location}
use Rattle.gate_rules.specs.Functions.{Fun}
use Rattle.gate_rules.specs.Mean.{mean_text}
use Rattle.gate_rules.specs.Report.{Weight, justified, report_row, weight_rows}
use Rattle.listing.specs.Texts.{justified-length, located, located_length, located-length, location-is}
use Rattle.mean.specs.Texts.{mean-length, mean_length}

-- a number in its column, and a space
abbrev pub column : ℕ → ℕ → List ℕ
column width n = joined (justified width (decimal n) ∷ ascii " " ∷ [])

abbrev pub column_length : ℕ → ℕ → ℕ
column_length width n = max width (length (decimal n)) + 1

pub column-length : (width n : ℕ) → length (column width n) ≡ column_length width n
column-length width n = joined_length (justified width (decimal n) ∷ ascii " " ∷ []) ∙ (omega (arith, justified-length width (decimal n)))

-- the four columns
abbrev pub measured : Fun → List ℕ
measured f =
    joined
    (column 5 f.cyclomatic ∷ column 5 f.lines ∷ column 4 f.nesting ∷ justified 6 (decimal f.params) ∷ ascii "  "
    ∷ [])

abbrev pub measured_length : Fun → ℕ
measured_length f =
    column_length 5 f.cyclomatic + column_length 5 f.lines + column_length 4 f.nesting + max 6 (length (decimal f.params)) + 2

pub measured-length : (f : Fun) → length (measured f) ≡ measured_length f
measured-length f =
    joined_length
    (column 5 f.cyclomatic ∷ column 5 f.lines ∷ column 4 f.nesting ∷ justified 6 (decimal f.params) ∷ ascii "  "
    ∷ [])
    ∙ (omega (
      arith,
      column-length 5 f.cyclomatic,
      column-length 5 f.lines,
      column-length 4 f.nesting,
      justified-length 6 (decimal f.params),
    ))

-- a function's row
abbrev pub row_length : Fun → ℕ
row_length f = measured_length f + located_length f.path f.line f.name + 1

-- the columns' texts, each with the space behind it
regrouped : (a b c d e s t u : List ℕ) → joined (a ∷ s ∷ b ∷ s ∷ c ∷ s ∷ d ∷ t ∷ e ∷ u ∷ [])
    ≡ joined (joined (joined (a ∷ s ∷ []) ∷ joined (b ∷ s ∷ []) ∷ joined (c ∷ s ∷ []) ∷ d ∷ t ∷ []) ∷ e ∷ u ∷ [])
regrouped a b c d e s t u = simp (append_assoc, append-nil)

pub row_is : (f : Fun) → report_row f ≡ joined (measured f ∷ located f.path f.line f.name ∷ ascii "\n" ∷ [])
unfolding report_row
row_is f =
    regrouped (justified 5 (decimal f.cyclomatic)) (justified 5 (decimal f.lines)) (justified 4 (decimal f.nesting)) (justified 6 (decimal f.params)) (location f) (ascii " ")
    (ascii "  ") (ascii "\n")
    ∙ ap (λ l. joined (measured f ∷ l ∷ ascii "\n" ∷ [])) (location-is f)

pub row-length : (f : Fun) → length (joined (measured f ∷ located f.path f.line f.name ∷ ascii "\n" ∷ [])) ≡ row_length f
row-length f =
    joined_length (measured f ∷ located f.path f.line f.name ∷ ascii "\n" ∷ []) ∙ (omega (arith, measured-length f, located-length f.path f.line f.name))

pub row-size : (f : Fun) → length (report_row f) ≡ row_length f
row-size f = ap length (row_is f) ∙ row-length f

-- a file's row
abbrev pub weight_row : ℕ → List ℕ → List ℕ
weight_row sum path = joined (justified 6 (decimal sum) ∷ ascii "  " ∷ path ∷ ascii "\n" ∷ [])

abbrev pub weight_length : ℕ → List ℕ → ℕ
weight_length sum path = max 6 (length (decimal sum)) + 2 + length path + 1

pub weight-length : (sum : ℕ) (path : List ℕ) → length (weight_row sum path) ≡ weight_length sum path
weight-length sum path = joined_length (justified 6 (decimal sum) ∷ ascii "  " ∷ path ∷ ascii "\n" ∷ []) ∙ (omega (arith, justified-length 6 (decimal sum)))

-- a file's row and those behind it
pub weight-rows-next : (w : Weight) (ws : List Weight) → weight_rows (w ∷ ws) ≡ weight_row w.sum w.path ++ weight_rows ws
unfolding weight_rows
weight-rows-next w ws = simp (append_assoc, append-nil)

-- the first lines
abbrev pub head : ℕ → ℕ → ℕ → List ℕ
head count total over =
    joined
    (decimal count ∷ ascii " functions in src/\nmean cyclomatic " ∷ mean_text total count
    ∷ ascii ", over the thresholds: " ∷ decimal over ∷ ascii "\n\ncyclo lines nest params  where\n"
    ∷ [])

abbrev pub head_length : ℕ → ℕ → ℕ → ℕ
head_length count total over = length (decimal count) + mean_length total count + length (decimal over) + 91

pub head-length : (count total over : ℕ) → length (head count total over) ≡ head_length count total over
head-length count total over =
    joined_length
    (decimal count ∷ ascii " functions in src/\nmean cyclomatic " ∷ mean_text total count
    ∷ ascii ", over the thresholds: " ∷ decimal over ∷ ascii "\n\ncyclo lines nest params  where\n"
    ∷ [])
    ∙ (omega (arith, mean-length total count))

-- the lengths of all that is written, for the room that a writer needs
pub ruleset lengths = (column-length, measured-length, row-size, weight-length, head-length, mean-length, justified-length)
