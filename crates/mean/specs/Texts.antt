-- The mean as it is printed, and its length in plain numbers.
use Rattle.std.specs.Prelude.{ℕ, ◌+◌, ◌/◌, ◌%◌, max, ◌≡◌, refl, List, [], ◌∷◌, length}
use Rattle.std.proofs.Common.{ap, ◌∙◌, arith}
use Rattle.text_rules.specs.Bytes.{ascii, joined}
use Rattle.text_rules.specs.Decimal.{decimal}
use Rattle.text_rules.proofs.DecimalSteps.{length-one}
use Rattle.text_rules.proofs.WriterLaws.{joined_length}
use Rattle.gate_rules.specs.Mean.{mean_tenths, mean_text}

-- tenths with a point
abbrev pub tenths_text : ℕ → List ℕ
tenths_text n = joined (decimal (n / 10) ∷ ascii "." ∷ decimal (n % 10) ∷ [])

-- the whole part's digits, the point and one digit
abbrev pub tenths_length : ℕ → ℕ
tenths_length n = length (decimal (n / 10)) + 2

pub tenths_length_lem : (n : ℕ) → length (tenths_text n) ≡ tenths_length n
tenths_length_lem n = joined_length (decimal (n / 10) ∷ ascii "." ∷ decimal (n % 10) ∷ []) ∙ (omega (arith, length-one (n % 10) (omega arith)))

-- the mean's
pub mean-is : (total count : ℕ) → mean_text total count ≡ tenths_text (mean_tenths total (max 1 count))
unfolding mean_text
mean-is total count = refl

abbrev pub mean_length : ℕ → ℕ → ℕ
mean_length total count = tenths_length (mean_tenths total (max 1 count))

pub mean-length : (total count : ℕ) → length (mean_text total count) ≡ mean_length total count
mean-length total count = ap length (mean-is total count) ∙ tenths_length_lem (mean_tenths total (max 1 count))

-- the length of what stays shut, for the room that a writer needs
pub ruleset lengths = (mean-length)
