-- What is printed, case by case: a file is too long, or the call check refuses, or it lists.
use Rattle.std.specs.Prelude.{ℕ, zero, suc, ◌≤◌, ◌≡◌, refl, Bool, true, false, List, [], ◌∷◌, ◌++◌, ltb, drop}
use Rattle.std.proofs.Math.Path.{ap, ap₂, sym}
use Rattle.std.proofs.Common.{◌∙◌, arith, length-append, length-take-le}
use Rattle.std.proofs.Math.ListN.{length, take}
use Rattle.text_rules.specs.Bytes.{◌or_else◌, ◌when◌}
use Rattle.text_rules.specs.Decimal.{decimal}
use Rattle.text_rules.specs.Sizes.{max_baseline}
use Rattle.gate_rules.specs.Baseline.{Entry, entries}
use Rattle.gate_rules.specs.Calls.{CheckAnswer, Checked, check_answer, check_call, check_number, output_after, room}
use Rattle.gate_rules.specs.Check.{listing}
use Rattle.gate_rules.specs.Functions.{Fun, Limits, gate_limits}
use Rattle.gate_rules.specs.Gate.{gate}
use Rattle.gate_rules.specs.Programs.{check_program, lent, printed, program_bytes}
use Rattle.gate_rules.specs.Scan.{functions_of}
use Rattle.gate_rules.proofs.TableLaws.{checked_number}
use Rattle.gate_rules.specs.Tree.{tree_refusal}
use Rattle.gate_check.specs.Checks.{Checks}
use Rattle.programs.specs.Lines.{Starts, refused-line}

-- the number where the baseline is too long
abbrev pub long_baseline : List ℕ → ℕ
long_baseline tree = tree_refusal tree or_else 7

-- the number where a file is too long, or else 0
unfoldable pub length_refusal : (tree baseline : List ℕ) → ℕ
length_refusal tree baseline = 1 when ltb program_bytes (length tree) or_else long_baseline tree when ltb program_bytes (length baseline)

-- ---- the number that a program tells, in general: a for a longer tree, b for a longer baseline, t for the tree's own refusal

module _ (a b : Bool) (t : ℕ) where
  abbrev too_long : ℕ
  too_long = 1 when a or_else (t or_else 7) when b

  abbrev told : ℕ → ℕ
  told call = 1 when a or_else t or_else 7 when b or_else call

-- a file is too long: the call's own number does not matter
long-number : (a b : Bool) (t call n : ℕ) → suc n ≡ too_long a b t → suc n ≡ told a b t call
long-number true b t call n e = e
long-number false true zero call n e = e
long-number false true (suc t) call n e = e
long-number false false t call n e = absurd (omega arith)

-- no file is too long: the number is the call's own, which tells of the tree first
call-number : (a b : Bool) (t rest : ℕ) → 0 ≡ too_long a b t → (t or_else rest) ≡ told a b t (t or_else rest)
call-number true b t rest e = absurd (omega arith)
call-number false true zero rest e = absurd (omega arith)
call-number false true (suc t) rest e = absurd (omega arith)
call-number false false zero rest e = refl
call-number false false (suc t) rest e = refl

long-line : (a b : Bool) (t call : ℕ) (text : List ℕ) (n : ℕ) → n ≡ too_long a b t → 1 ≤ n → decimal n ++ 10 ∷ [] ≡ printed (told a b t call) text
long-line a b t call text zero e h = absurd (omega arith)
long-line a b t call text (suc n) e h = ap (λ m. printed m text) (long-number a b t call n e)

call_line : (a b : Bool) (t call rest : ℕ) (text : List ℕ) → call ≡ (t or_else rest) → 0 ≡ too_long a b t → printed call text ≡ printed (told a b t call) text
call_line a b t call rest text first e = ap (λ m. printed m text) (first ∙ call-number a b t rest e ∙ ap (told a b t) (sym first))

-- ---- the program

-- the listing lies in the output
inside : (L : Limits) (n : ℕ) (es : List Entry) (fs : List Fun) (output : List ℕ) → (check_answer L n es fs).written ≤ length (output_after n (listing L es fs) output)
inside L zero es fs output = omega (arith, length-append (listing L es fs) (drop (length (listing L es fs)) output))
inside L (suc n) es fs output = omega arith

module _ (tree baseline : List ℕ) where
  -- a file is too long
  pub long-printed : (n : ℕ) → n ≡ length_refusal tree baseline → 1 ≤ n → decimal n ++ 10 ∷ [] ≡ check_program tree baseline
  unfolding length_refusal check_program
  long-printed n e h = long-line (ltb program_bytes (length tree)) (ltb program_bytes (length baseline)) (tree_refusal tree) _ _ n e h

  -- what the program tells of a call
  program_by : Checked → List ℕ
  program_by c = printed (told (ltb program_bytes (length tree)) (ltb program_bytes (length baseline)) (tree_refusal tree) c.answer.number) (take c.answer.written c.output)

  module _ (work records output : List ℕ) where
    call : Checked
    call = check_call gate gate_limits tree baseline work records output

    -- the call's number behind the tree's own refusals
    rest : ℕ
    rest =
        5 when ltb (length work) (length tree)
        or_else 7 when ltb max_baseline (length baseline)
        or_else 8 when ltb (room records) (length (functions_of gate tree))
        or_else 9 when ltb (length output) (length (listing gate_limits (entries baseline) (functions_of gate tree)))

    call-first : call.answer.number ≡ (tree_refusal tree or_else rest)
    unfolding call check_call check_number gate rest
    call-first = checked_number gate_limits (check_number gate gate_limits tree baseline work records output) (entries baseline) (functions_of gate tree)

    call-inside : call.answer.written ≤ length call.output
    unfolding call check_call
    call-inside = inside gate_limits (check_number gate gate_limits tree baseline work records output) (entries baseline) (functions_of gate tree) output

    module _ (work-zeros : work ≡ lent) (records-zeros : records ≡ lent) (output-zeros : output ≡ lent) (short : 0 ≡ length_refusal tree baseline) where
      call_same : call ≡ check_call gate gate_limits tree baseline lent lent lent
      unfolding call
      call_same = λ i. check_call gate gate_limits tree baseline (work-zeros i) (records-zeros i) (output-zeros i)

      call-printed : printed call.answer.number (take call.answer.written call.output) ≡ check_program tree baseline
      unfolding length_refusal check_program program_by
      call-printed =
          call_line (ltb program_bytes (length tree)) (ltb program_bytes (length baseline)) (tree_refusal tree) call.answer.number rest (take call.answer.written call.output) call-first short
          ∙ ap program_by call_same

      module _ (r : CheckAnswer) (w l o : List ℕ) (checks : Checks r (check_call gate gate_limits tree baseline work records output) w l o) where
        -- the call refuses
        pub refused-printed : 1 ≤ r.number → decimal r.number ++ 10 ∷ [] ≡ check_program tree baseline
        unfolding call
        refused-printed h =
            refused-line r.number (take call.answer.written call.output) h
            ∙ ap (λ n. printed n (take call.answer.written call.output)) checks.number_is
            ∙ call-printed

        -- the call lists
        pub listing-printed : r.number ≡ 0 → Starts r.written o (check_program tree baseline)
        unfolding call
        listing-printed e =
            let within : r.written ≤ length o = omega (arith, checks.written_is, ap length checks.output-is, call-inside) in (
              (within, sym (length-take-le r.written o within)),
              ap₂ take checks.written_is checks.output-is
                  ∙ ap (λ m. printed m (take call.answer.written call.output)) (sym e ∙ checks.number_is)
                  ∙ call-printed,
            )
