-- What is printed and what is written, case by case: the tree is too long, or the call update refuses, or it writes.
use Rattle.std.specs.Prelude.{ℕ, zero, suc, Option, None, Some, ◌≤◌, ◌<◌, ◌≡◌, refl, List, [], ◌∷◌, ◌++◌, length, take}
use Rattle.std.proofs.Math.Path.{ap, ap₂, sym}
use Rattle.std.proofs.Common.{◌∙◌, arith, length-take-le, le-ltb}
use Rattle.std.proofs.Math.Option.{Option as MathOption, none, some}
use Rattle.io.specs.Counts.{IsPrefixLen}
use Rattle.text_rules.specs.Bytes.{ascii, joined}
use Rattle.text_rules.specs.Decimal.{decimal, digits}
use Rattle.gate_rules.specs.Calls.{UpdateAnswer, Updated, update_call}
use Rattle.gate_rules.specs.Functions.{gate_limits}
use Rattle.gate_rules.specs.Gate.{gate}
use Rattle.gate_rules.proofs.ProgramLaws.{update_longer, update-no-file}
use Rattle.gate_rules.specs.Programs.{lent, printed, program_bytes, update_file, update_program, written_at}
use Rattle.gate_update.specs.Updates.{Updates, written-inside}
use Rattle.programs.specs.Lines.{refused-line}

-- the closing line
abbrev pub closing : ℕ → List ℕ
closing recorded = joined (ascii "tools/complexity-baseline.tsv: " ∷ decimal recorded ∷ ascii " functions recorded\n" ∷ [])

-- a refusal's line
abbrev pub refusal_line : ℕ → List ℕ
refusal_line number = decimal number ++ 10 ∷ []

-- the file that is written, if one is: the first bytes of an output
abbrev pub file_of : Option ℕ → List ℕ → MathOption (List ℕ)
file_of None output = none
file_of (Some n) output = some (take n output)

-- the file lies in the output
abbrev pub FileLies : Option ℕ → List ℕ → Type 0
FileLies None output = Unit {0}
FileLies (Some n) output = IsPrefixLen n output

-- no byte of the output
pub none-counts : (n : ℕ) (s : List ℕ) → n ≡ 0 → IsPrefixLen n s
none-counts n s e = let within : n ≤ length s = omega (arith, e) in (within, sym (length-take-le n s within))

-- where none is written, none is told
pub no-file : (f : Option ℕ) (output : List ℕ) → f ≡ None → FileLies f output × (file_of f output ≡ none)
no-file None output e = (tt, refl)
no-file (Some n) output e = absurd (option_differs n e)
  where
    option_differs : (n : ℕ) → Some n ≡ None → ⊥
    option_differs n e = cc

-- the tree is too long
module _ (tree : List ℕ) (long : 65536 < length tree) where
  -- its line
  pub long-line : refusal_line 1 ≡ update_program tree
  unfolding decimal digits
  long-line = sym (update_longer tree long)

  -- no file
  pub long-file : none ≡ update_file tree
  long-file = sym (update-no-file tree long)

-- a refusal writes nothing
refused_write : (n : ℕ) (text : List ℕ) → 1 ≤ n → none ≡ written_at n text
refused_write zero text h = absurd (omega arith)
refused_write (suc n) text h = refl

module _ (tree work records output : List ℕ) (work-zeros : work ≡ lent) (records-zeros : records ≡ lent) (output-zeros : output ≡ lent) (short : length tree ≤ program_bytes) where
  -- the two definitions, with any buffers and without the test of the length
  line_by : Updated → List ℕ
  line_by u = printed u.answer.number (closing u.answer.recorded)

  file_by : Updated → MathOption (List ℕ)
  file_by u = written_at u.answer.number (take u.answer.written u.output)

  call_same : update_call gate gate_limits tree work records output ≡ update_call gate gate_limits tree lent lent lent
  call_same = λ i. update_call gate gate_limits tree (work-zeros i) (records-zeros i) (output-zeros i)

  line-is : line_by (update_call gate gate_limits tree work records output) ≡ update_program tree
  unfolding update_program line_by
  line-is = ap line_by call_same ∙ rw (le-ltb program_bytes (length tree) short)

  file-is : file_by (update_call gate gate_limits tree work records output) ≡ update_file tree
  unfolding update_file file_by
  file-is = ap file_by call_same ∙ rw (le-ltb program_bytes (length tree) short)

  module _ (r : UpdateAnswer) (w l o : List ℕ) (updates : Updates r (update_call gate gate_limits tree work records output) w l o) where
    -- the call refuses
    module _ (refused : 1 ≤ r.number) where
      -- its line
      pub refused-printed : refusal_line r.number ≡ update_program tree
      unfolding line_by
      refused-printed = refused-line r.number _ refused ∙ ap (λ n. printed n (closing (update_call gate gate_limits tree work records output).answer.recorded)) updates.number_is ∙ line-is

      -- no file
      pub refused-file : none ≡ update_file tree
      unfolding file_by
      refused-file =
          let u = update_call gate gate_limits tree work records output in
          refused_write r.number (take u.answer.written u.output) refused
          ∙ ap (λ m. written_at m (take u.answer.written u.output)) updates.number_is
          ∙ file-is

    -- the call writes
    module _ (done : r.number ≡ 0) where
      -- the closing line
      pub closing-line : closing r.recorded ≡ update_program tree
      unfolding line_by
      closing-line =
          ap closing updates.recorded-is
          ∙ ap (λ n. printed n (closing (update_call gate gate_limits tree work records output).answer.recorded)) (sym done ∙ updates.number_is)
          ∙ line-is

      -- the file
      pub closing-file : written_at 0 (take r.written o) ≡ update_file tree
      unfolding file_by
      closing-file =
          let u = update_call gate gate_limits tree work records output in
          ap₂ (λ n s. written_at 0 (take n s)) updates.written_is updates.output-is
          ∙ ap (λ m. written_at m (take u.answer.written u.output)) (sym done ∙ updates.number_is)
          ∙ file-is

    -- the file lies in the output
    pub file-counts : IsPrefixLen r.written o
    file-counts =
        let within = written-inside r gate_limits tree work records output w l o updates in
        (within, sym (length-take-le r.written o within))
