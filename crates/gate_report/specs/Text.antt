-- The report's text by the parts that it is written in.
use Rattle.std.specs.Prelude.{ℕ, ◌+◌, ◌≤◌, ◌≡◌, List, [], ◌∷◌, ◌++◌, length, drop}
use Rattle.std.proofs.Common.{ap, ap₂, sym, ◌∙◌, append_assoc, append-nil, arith}
use Rattle.text_rules.specs.Bytes.{ascii, joined, overwritten, put_at, total}
use Rattle.text_rules.specs.Decimal.{decimal}
use Rattle.text_rules.proofs.WriterLaws.{joined_length}
use Rattle.gate_rules.specs.Functions.{Limits}
use Rattle.gate_rules.specs.Gate.{gate}
use Rattle.gate_rules.proofs.ListingSizes.{report-length}
use Rattle.gate_rules.specs.Mean.{mean_text}
use Rattle.gate_rules.specs.Report.{report_rows, report_text, reported, weight_rows}
use Rattle.gate_rules.specs.ReportCall.{report_of}
use Rattle.gate_rules.specs.Scan.{functions_of}
use Rattle.gate_rules.specs.Update.{over_limit}
use Rattle.functions.proofs.Accepted.{accepted}
use Rattle.functions.specs.Shown.{Stand}
use Rattle.report_files.specs.Files.{heaviest_files}
use Rattle.report_functions.specs.Counting.{Counted}
use Rattle.report_functions.specs.declared.Counts.{Counts}
use Rattle.report_rows.specs.Texts.{head, head-length, head_length}

-- the line before the files
abbrev pub files_line : List ℕ
files_line = ascii "\nheaviest files by total cyclomatic complexity\n"

module _ (L : Limits) (tree : List ℕ) where
  -- its parts, one behind the other
  abbrev pub parts : ℕ → ℕ → ℕ → List (List ℕ)
  parts count branches over = head count branches over ∷ report_rows (reported L (functions_of gate tree)) ∷ files_line ∷ weight_rows (heaviest_files tree) ∷ []

  regrouped : (a b c d e f rows line files : List ℕ)
      → joined (a ∷ b ∷ c ∷ d ∷ e ∷ f ∷ rows ∷ line ∷ files ∷ []) ≡ joined (joined (a ∷ b ∷ c ∷ d ∷ e ∷ f ∷ []) ∷ rows ∷ line ∷ files ∷ [])
  regrouped a b c d e f rows line files = simp (append_assoc, append-nil)

  whole : report_of gate L tree ≡ joined (parts (length (functions_of gate tree)) (total (λ f. f.cyclomatic) (functions_of gate tree)) (length (over_limit L (functions_of gate tree))))
  unfolding report_of report_text
  whole =
      let fs = functions_of gate tree in
      regrouped (decimal (length fs)) (ascii " functions in src/\nmean cyclomatic ") (mean_text (total (λ f. f.cyclomatic) fs) (length fs)) (ascii ", over the thresholds: ")
      (decimal (length (over_limit L fs))) (ascii "\n\ncyclo lines nest params  where\n") (report_rows (reported L fs)) files_line (weight_rows (heaviest_files tree))

  module _ (n : ℕ) (c : Counts) (e : n ≡ length (functions_of gate tree)) (k : Counted L (functions_of gate tree) c) where
    pub in_parts : report_of gate L tree ≡ joined (parts n c.branches c.over)
    in_parts =
        whole
        ∙ ap (λ m. joined (parts m (total (λ f. f.cyclomatic) (functions_of gate tree)) (length (over_limit L (functions_of gate tree))))) (sym e)
        ∙ ap₂ (λ b o. joined (parts n b o)) (sym k.branches_is) (sym k.over-is)

    pub text-length : length (report_of gate L tree) ≡ head_length n c.branches c.over + c.bytes + 47 + length (weight_rows (heaviest_files tree))
    text-length =
        ap length in_parts
        ∙ joined_length (parts n c.branches c.over)
        ∙ (omega (arith, head-length n c.branches c.over, k.bytes_is))

-- where the records stand the report is short
pub text-most : (L : Limits) (tree lent : List ℕ) → Stand tree lent → length (report_of gate L tree) ≤ 30000000
text-most L tree lent s = report-length L tree (accepted tree lent s)

-- what is put from the first byte on overwrites
pub put-start : (xs s : List ℕ) → put_at 0 xs s ≡ overwritten xs s
put-start xs s = let e : 0 + length xs ≡ length xs = omega arith in ap (λ n. xs ++ drop n s) e
