-- A row of update by what it is made of, and its length in plain numbers; and all rows, as a loop writes them.
use Rattle.std.specs.Prelude.{ℕ, ◌+◌, ◌≡◌, refl, List, [], ◌∷◌, ◌++◌, length}
use Rattle.std.proofs.Common.{ap, sym, ◌∙◌, append_assoc, arith, length-append}
use Rattle.text_rules.specs.Bytes.{ascii, joined}
use Rattle.text_rules.specs.Classes.{lf}
use Rattle.text_rules.specs.Decimal.{decimal}
use Rattle.text_rules.proofs.WriterLaws.{joined_length}
use Rattle.gate_rules.specs.Functions.{Fun, Limits, over}
use Rattle.gate_rules.proofs.RowOrders.{row_orders}
use Rattle.gate_rules.specs.Update.{baseline_text, header, over_limit, recorded, row, row_before, rows}
use Rattle.functions.specs.Shown.{no_fun}
use Rattle.order.specs.Chosen.{left, left-all}

-- the header's length
pub header-length : length header ≡ 396
unfolding header
header-length = refl

-- path, tab, name, tab
abbrev pub keyed : List ℕ → List ℕ → List ℕ
keyed path name = joined (path ∷ ascii "\t" ∷ name ∷ ascii "\t" ∷ [])

abbrev pub keyed_length : List ℕ → List ℕ → ℕ
keyed_length path name = length path + 1 + length name + 1

pub keyed-length : (path name : List ℕ) → length (keyed path name) ≡ keyed_length path name
keyed-length path name = joined_length (path ∷ ascii "\t" ∷ name ∷ ascii "\t" ∷ []) ∙ (omega arith)

-- cyclomatic, tab, lines and the LF behind a row
abbrev pub measured : ℕ → ℕ → List ℕ
measured cyclomatic lines = joined (decimal cyclomatic ∷ ascii "\t" ∷ decimal lines ∷ ascii "\n" ∷ [])

abbrev pub measured_length : ℕ → ℕ → ℕ
measured_length cyclomatic lines = length (decimal cyclomatic) + 1 + length (decimal lines) + 1

pub measured-length : (cyclomatic lines : ℕ) → length (measured cyclomatic lines) ≡ measured_length cyclomatic lines
measured-length cyclomatic lines = joined_length (decimal cyclomatic ∷ ascii "\t" ∷ decimal lines ∷ ascii "\n" ∷ []) ∙ (omega arith)

-- a row with the LF behind it
abbrev pub lined : Fun → List ℕ
lined f = row f ++ lf ∷ []

abbrev pub lined_length : Fun → ℕ
lined_length f = keyed_length f.path f.name + measured_length f.cyclomatic f.lines

pub lined-is : (f : Fun) → lined f ≡ keyed f.path f.name ++ measured f.cyclomatic f.lines
unfolding row
lined-is f = simp append_assoc

pub lined-length : (f : Fun) → length (lined f) ≡ lined_length f
lined-length f =
    ap length (lined-is f) ∙ length-append (keyed f.path f.name) (measured f.cyclomatic f.lines)
    ∙ omega (arith, keyed-length f.path f.name, measured-length f.cyclomatic f.lines)

-- the header and the rows behind it
pub text-length : (L : Limits) (fs : List Fun) → length (baseline_text L fs) ≡ 396 + length (rows (recorded L fs))
unfolding baseline_text
text-length L fs = length-append header (rows (recorded L fs)) ∙ ap (λ n. n + length (rows (recorded L fs))) header-length

-- the rows, one behind the other
pub recorded-is : (L : Limits) (fs : List Fun) → left row_before row_orders no_fun fs (over L) 0 ≡ recorded L fs
unfolding recorded over_limit
recorded-is L fs = left-all row_before row_orders no_fun fs (over L)

pub no_rows : rows [] ≡ []
unfolding rows
no_rows = refl

pub one-row : (f : Fun) (fs : List Fun) → rows (f ∷ fs) ≡ lined f ++ rows fs
unfolding rows
one-row f fs = sym (append_assoc (row f) (10 ∷ []) (rows fs))
