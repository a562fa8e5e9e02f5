-- What update answers and leaves, one named equation for each of the answer's numbers and for each lent buffer. An update is a scan, and then a listing:
-- it refuses first what the scan refuses.
use Prim.Native.Nat.{ℕ, zero, suc, ◌≤◌, ◌<◌}
use Rattle.std.specs.Prelude.{◌≡◌, refl, Result, Ok, Err, List, length}
use Rattle.std.proofs.Math.Path.{ap, subst, sym}
use Rattle.std.proofs.Common.{◌∙◌, arith}
use Rattle.std.proofs.Math.Dec.{ltb}
use borrow.Author.Tests.{le-ltb, lt-ltb, ltb-false}
use Rattle.text_rules.specs.Answer.{Answer, answer_at}
use Rattle.text_rules.specs.Bytes.{◌or_else◌, ◌when◌, overwritten}
use Rattle.text_rules.specs.BytesLaws.{or_else-first, or_else-rest, when-fails}
use Rattle.gate_rules.specs.Calls.{UpdateAnswer, Updated, output_after, records_after, room, scan_call, scan_number, update_answer, update_call, update_number, work_after}
use Rattle.gate_rules.specs.Functions.{Limits}
use Rattle.gate_rules.specs.Gate.{gate}
use Rattle.gate_rules.proofs.LeftLaws.{update-keeps}
use Rattle.gate_rules.proofs.RefusalLaws.{or_else_lem}
use Rattle.gate_rules.specs.Scan.{functions_of}
use Rattle.gate_rules.proofs.SettlesProof.{updated_enough}
use Rattle.gate_rules.proofs.TableLaws.{answer-number, updated_number}
use Rattle.gate_rules.specs.Tree.{tree_refusal}
use Rattle.gate_rules.specs.Update.{baseline_text, recorded}
use Rattle.answers.specs.Numbers.{number_of}
use Rattle.answers.specs.declared.Refusal.{Refusal}
use Rattle.functions.specs.Shown.{Stand}
use Rattle.functions.specs.Stands.{stands}
use Rattle.gate_scan.specs.Scans.{Scans}
use Rattle.gate_update.specs.declared.UpdateCounts.{UpdateCounts}

-- what update hands back, as the record of the definitions
abbrev pub update_told : Result UpdateCounts Refusal → UpdateAnswer
update_told (Ok c) = record { number = 0; written = c.written; functions = c.functions; recorded = c.recorded }
update_told (Err e) = record { number = number_of e; written = 0; functions = 0; recorded = 0 }

pub record Updates (r : UpdateAnswer) (c : Updated) (work records output : List ℕ) : Type 0 where
  pub number_is : r.number ≡ c.answer.number
  pub written_is : r.written ≡ c.answer.written
  pub functions-is : r.functions ≡ c.answer.functions
  pub recorded-is : r.recorded ≡ c.answer.recorded
  pub work-is : work ≡ c.work
  pub records_is : records ≡ c.records
  pub output-is : output ≡ c.output

-- by limits that are equal to those
pub updates_by : (r : UpdateAnswer) (K L : Limits) (tree work records' output w l o : List ℕ) → K ≡ L → Updates r (update_call gate K tree work records' output) w l o
    → Updates r (update_call gate L tree work records' output) w l o
updates_by r K L tree work records' output w l o e u = subst (λ M. Updates r (update_call gate M tree work records' output) w l o) e u

-- what is written lies in the output, as a caller that reads it back asks
written-most : (L : Limits) (tree work records' output : List ℕ) (n : ℕ) → update_number gate L tree work records' output ≡ n → (update_answer L n (functions_of gate tree)).written ≤ length output
unfolding update_call
written-most L tree work records' output zero e = (updated_enough L gate tree work records' output (updated_number L _ _ ∙ e)).output-holds
written-most L tree work records' output (suc n) e = omega arith

pub written-inside : (r : UpdateAnswer) (L : Limits) (tree work records' output w l o : List ℕ) → Updates r (update_call gate L tree work records' output) w l o → r.written ≤ length o
unfolding update_call
written-inside r L tree work records' output w l o u =
    omega (
      arith,
      u.written_is,
      ap length u.output-is,
      (update-keeps L tree work records' output).same-output,
      written-most L tree work records' output (update_number gate L tree work records' output) refl,
    )

module _ (L : Limits) (tree work records' output : List ℕ) where
  -- update's number is the scan's, and where that is 0 the output may be too short
  number-is_scan : update_number gate L tree work records' output ≡ scan_number gate tree work records' or_else 9 when ltb (length output) (length (baseline_text L (functions_of gate tree)))
  unfolding update_number scan_number
  number-is_scan =
      let short = 9 when ltb (length output) (length (baseline_text L (functions_of gate tree))) in
      let many = 8 when ltb (room records') (length (functions_of gate tree)) in
      let small = 5 when ltb (length work) (length tree) in
      sym (or_else_lem (gate.refusal tree) (small or_else many) short ∙ ap (λ n. gate.refusal tree or_else n) (or_else_lem small many short))

  -- what the call answers and leaves at a number
  at : ℕ → Updated
  at n =
      record {
        answer = update_answer L n (functions_of gate tree);
        work = work_after gate n tree work;
        records = records_after gate n tree records';
        output = output_after n (baseline_text L (functions_of gate tree)) output;
      }

  call_at : (n : ℕ) → update_number gate L tree work records' output ≡ n → at n ≡ update_call gate L tree work records' output
  unfolding update_call at
  call_at n e = ap at (sym e)

  module _ (s : Answer) (w l : List ℕ) (scanned : Scans s (scan_call gate tree work records') w l) where
    scan_number_lem : s.number ≡ scan_number gate tree work records'
    unfolding scan_call
    scan_number_lem = scanned.number_is ∙ answer-number (scan_number gate tree work records') 0 (length (functions_of gate tree))

    work-at : (n : ℕ) → scan_number gate tree work records' ≡ n → w ≡ work_after gate n tree work
    unfolding scan_call
    work-at n e = scanned.work-is ∙ ap (λ m. work_after gate m tree work) e

    records-at : (n : ℕ) → scan_number gate tree work records' ≡ n → l ≡ records_after gate n tree records'
    unfolding scan_call
    records-at n e = scanned.records_is ∙ ap (λ m. records_after gate m tree records') e

    -- the scan was refused
    refused-at : (r : UpdateAnswer) (n : ℕ) → scan_number gate tree work records' ≡ n → 1 ≤ n → (r.number ≡ n) × (r.written ≡ 0) × (r.functions ≡ 0) × (r.recorded ≡ 0) → Updates r (at n) w l output
    unfolding at
    refused-at r zero e h q = absurd (omega arith)
    refused-at r (suc n) e h q =
        record {
          number_is = q.0;
          written_is = q.1;
          functions-is = q.2;
          recorded-is = q.3;
          work-is = work-at (suc n) e;
          records_is = records-at (suc n) e;
          output-is = refl;
        }

    number-refused : (n : ℕ) → scan_number gate tree work records' ≡ n → 1 ≤ n → update_number gate L tree work records' output ≡ n
    number-refused zero e h = absurd (omega arith)
    number-refused (suc n) e h = number-is_scan ∙ rw e

    pub refused_updates : (r : UpdateAnswer) → 1 ≤ s.number → (r.number ≡ s.number) × (r.written ≡ 0) × (r.functions ≡ 0) × (r.recorded ≡ 0)
        → Updates r (update_call gate L tree work records' output) w l output
    refused_updates r h q =
        subst (λ c. Updates r c w l output) (call_at s.number (number-refused s.number (sym scan_number_lem) h)) (refused-at r s.number (sym scan_number_lem) h q)

    module _ (zero_is : s.number ≡ 0) where
      scan_zero : scan_number gate tree work records' ≡ 0
      scan_zero = sym scan_number_lem ∙ zero_is

      -- the records stand
      pub scan_stands : Stand tree l
      unfolding scan_number gate records_after
      scan_stands =
          let rest = or_else-rest (tree_refusal tree) _ scan_zero in
          let few = ltb-false (room records') (length (functions_of gate tree)) (when-fails 7 _ (or_else-rest (5 when ltb (length work) (length tree)) _ rest)) in
          subst (Stand tree) (sym (records-at 0 scan_zero)) (stands tree records' (or_else-first (tree_refusal tree) _ scan_zero) few)

      pub scan_count : s.functions ≡ length (functions_of gate tree)
      unfolding scan_call
      scan_count = scanned.functions-is ∙ ap (λ n. (answer_at n 0 (length (functions_of gate tree))).functions) scan_zero

      -- the output is too short
      short-at : (r : UpdateAnswer) → (r.number ≡ 9) × (r.written ≡ 0) × (r.functions ≡ 0) × (r.recorded ≡ 0) → Updates r (at 9) w l output
      unfolding at work_after records_after
      short-at r q =
          record {
            number_is = q.0;
            written_is = q.1;
            functions-is = q.2;
            recorded-is = q.3;
            work-is = work-at 0 scan_zero;
            records_is = records-at 0 scan_zero;
            output-is = refl;
          }

      pub short_updates : (r : UpdateAnswer) → length output < length (baseline_text L (functions_of gate tree)) → (r.number ≡ 9) × (r.written ≡ 0) × (r.functions ≡ 0) × (r.recorded ≡ 0)
          → Updates r (update_call gate L tree work records' output) w l output
      short_updates r h q =
          let number : update_number gate L tree work records' output ≡ 9 = number-is_scan ∙ rw (scan_zero, lt-ltb (length output) (length (baseline_text L (functions_of gate tree))) h) in
          subst (λ c. Updates r c w l output) (call_at 9 number) (short-at r q)

      -- all is written
      whole-at : (r : UpdateAnswer) (out : List ℕ)
          → (r.number ≡ 0) × (r.written ≡ length (baseline_text L (functions_of gate tree))) × (r.functions ≡ length (functions_of gate tree)) × (r.recorded ≡ length (recorded L (functions_of gate tree)))
          → out ≡ overwritten (baseline_text L (functions_of gate tree)) output → Updates r (at 0) w l out
      unfolding at
      whole-at r out q o =
          record {
            number_is = q.0;
            written_is = q.1;
            functions-is = q.2;
            recorded-is = q.3;
            work-is = work-at 0 scan_zero;
            records_is = records-at 0 scan_zero;
            output-is = o;
          }

      pub whole_updates : (r : UpdateAnswer) (out : List ℕ) → length (baseline_text L (functions_of gate tree)) ≤ length output
          → (r.number ≡ 0) × (r.written ≡ length (baseline_text L (functions_of gate tree))) × (r.functions ≡ length (functions_of gate tree)) × (r.recorded ≡ length (recorded L (functions_of gate tree)))
          → out ≡ overwritten (baseline_text L (functions_of gate tree)) output → Updates r (update_call gate L tree work records' output) w l out
      whole_updates r out h q o =
          let number : update_number gate L tree work records' output ≡ 0 = number-is_scan ∙ rw (scan_zero, le-ltb (length output) (length (baseline_text L (functions_of gate tree))) h) in
          subst (λ c. Updates r c w l out) (call_at 0 number) (whole-at r out q o)
