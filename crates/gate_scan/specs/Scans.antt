-- What scan answers and leaves, one named equation for the answer's numbers and for each lent buffer.
use Prim.Native.Nat.{ℕ, zero, suc, ◌≤◌, ◌<◌}
use Rattle.std.specs.Prelude.{◌≡◌, List, Result, map, length, take}
use Rattle.std.proofs.Math.Path.{refl, ap}
use Rattle.std.proofs.Common.{subst, sym, ◌∙◌, arith}
use borrow.Author.Tests.{le-ltb, lt-ltb}
use Rattle.text_rules.specs.Answer.{Answer, answer_at}
use Rattle.text_rules.specs.Bytes.{joined, overwritten}
use Rattle.gate_rules.proofs.BufferLaws.{records-length}
use Rattle.gate_rules.specs.Calls.{Scanned, records_after, room, scan_call, scan_number, work_after}
use Rattle.gate_rules.specs.Gate.{gate}
use Rattle.gate_rules.specs.Records.{blank_into, record_bytes, records}
use Rattle.gate_rules.specs.Scan.{functions_of}
use Rattle.gate_rules.specs.Tree.{sources, tree_refusal}
use Rattle.answers.specs.Numbers.{answer_by}
use Rattle.answers.specs.declared.Refusal.{Refusal}

-- what scan hands back, as the record of the definitions: no bytes are written
abbrev pub scan_answer : Result ℕ Refusal → Answer
scan_answer = answer_by (λ _. 0) (λ n. n)

pub record Scans (r : Answer) (c : Scanned) (work records : List ℕ) : Type 0 where
  pub number_is : r.number ≡ c.answer.number
  pub written_is : r.written ≡ c.answer.written
  pub functions-is : r.functions ≡ c.answer.functions
  pub work-is : work ≡ c.work
  pub records_is : records ≡ c.records

-- buffers that are equal to those
pub scans_as : (r : Answer) (c : Scanned) (w w' l l' : List ℕ) → w' ≡ w → l' ≡ l → Scans r c w l → Scans r c w' l'
scans_as r c w w' l l' e d s =
    record { number_is = s.number_is; written_is = s.written_is; functions-is = s.functions-is; work-is = e ∙ s.work-is; records_is = d ∙ s.records_is }

-- the ways that code goes through the table
module _ (tree work records' : List ℕ) where
  pub number-tree : (n : ℕ) → tree_refusal tree ≡ n → 1 ≤ n → scan_number gate tree work records' ≡ n
  unfolding scan_number gate
  number-tree zero e h = absurd (omega arith)
  number-tree (suc n) e h = rw e

  module _ (e : tree_refusal tree ≡ 0) where
    pub number-five : length work < length tree → scan_number gate tree work records' ≡ 5
    unfolding scan_number gate
    number-five h = rw (e, lt-ltb (length work) (length tree) h)

    module _ (long : length tree ≤ length work) where
      pub number-eight : room records' < length (functions_of gate tree) → scan_number gate tree work records' ≡ 8
      unfolding scan_number gate
      number-eight h = rw (e, le-ltb (length work) (length tree) long, lt-ltb (room records') (length (functions_of gate tree)) h)

      pub number_zero : length (functions_of gate tree) ≤ room records' → scan_number gate tree work records' ≡ 0
      unfolding scan_number gate
      number_zero h = rw (e, le-ltb (length work) (length tree) long, le-ltb (room records') (length (functions_of gate tree)) h)

  -- what the call answers and leaves at a number
  at : ℕ → Scanned
  at n = record { answer = answer_at n 0 (length (functions_of gate tree)); work = work_after gate n tree work; records = records_after gate n tree records' }

  call_at : (n : ℕ) → scan_number gate tree work records' ≡ n → at n ≡ scan_call gate tree work records'
  unfolding scan_call at
  call_at n e = ap at (sym e)

  -- a refusal before the scan: every buffer stays
  stays : (r : Answer) (n : ℕ) → 1 ≤ n → n ≤ 7 → (r.number ≡ n) × (r.written ≡ 0) × (r.functions ≡ 0) → Scans r (at n) work records'
  unfolding at work_after records_after
  stays r zero h k q = absurd (omega arith)
  stays r (suc zero) h k q = record { number_is = q.0; written_is = q.1; functions-is = q.2; work-is = refl; records_is = refl }
  stays r (suc (suc zero)) h k q = record { number_is = q.0; written_is = q.1; functions-is = q.2; work-is = refl; records_is = refl }
  stays r (suc (suc (suc zero))) h k q = record { number_is = q.0; written_is = q.1; functions-is = q.2; work-is = refl; records_is = refl }
  stays r (suc (suc (suc (suc zero)))) h k q = record { number_is = q.0; written_is = q.1; functions-is = q.2; work-is = refl; records_is = refl }
  stays r (suc (suc (suc (suc (suc zero))))) h k q = record { number_is = q.0; written_is = q.1; functions-is = q.2; work-is = refl; records_is = refl }
  stays r (suc (suc (suc (suc (suc (suc zero)))))) h k q = record { number_is = q.0; written_is = q.1; functions-is = q.2; work-is = refl; records_is = refl }
  stays r (suc (suc (suc (suc (suc (suc (suc zero))))))) h k q = record { number_is = q.0; written_is = q.1; functions-is = q.2; work-is = refl; records_is = refl }
  stays r (suc (suc (suc (suc (suc (suc (suc (suc n)))))))) h k q = absurd (omega arith)

  pub refused_scans : (r : Answer) (n : ℕ) → scan_number gate tree work records' ≡ n → 1 ≤ n → n ≤ 7 → (r.number ≡ n) × (r.written ≡ 0) × (r.functions ≡ 0)
      → Scans r (scan_call gate tree work records') work records'
  refused_scans r n e h k q = subst (λ c. Scans r c work records') (call_at n e) (stays r n h k q)

  -- what a scan makes of work and records
  abbrev pub blanked_work : List ℕ
  blanked_work = blank_into (sources tree) work

  abbrev pub filled : List ℕ
  filled = overwritten (joined (take (room records') (map record_bytes (records tree)))) records'

  many : (r : Answer) → (r.number ≡ 8) × (r.written ≡ 0) × (r.functions ≡ 0) → Scans r (at 8) blanked_work filled
  unfolding at work_after records_after gate
  many r q = record { number_is = q.0; written_is = q.1; functions-is = q.2; work-is = refl; records_is = refl }

  pub many_scans : (r : Answer) → scan_number gate tree work records' ≡ 8 → (r.number ≡ 8) × (r.written ≡ 0) × (r.functions ≡ 0) → Scans r (scan_call gate tree work records') blanked_work filled
  many_scans r e q = subst (λ c. Scans r c blanked_work filled) (call_at 8 e) (many r q)

  whole : (r : Answer) → (r.number ≡ 0) × (r.written ≡ 0) × (r.functions ≡ length (functions_of gate tree)) → Scans r (at 0) blanked_work filled
  unfolding at work_after records_after gate
  whole r q = record { number_is = q.0; written_is = q.1; functions-is = q.2; work-is = refl; records_is = refl }

  pub whole_scans : (r : Answer) → scan_number gate tree work records' ≡ 0 → (r.number ≡ 0) × (r.written ≡ 0) × (r.functions ≡ length (functions_of gate tree)) → Scans r (scan_call gate tree work records') blanked_work filled
  whole_scans r e q = subst (λ c. Scans r c blanked_work filled) (call_at 0 e) (whole r q)

  pub filled-length : length filled ≡ length records'
  unfolding gate
  filled-length = records-length tree records'
