-- What check answers and leaves, one named equation for each of the answer's numbers and for each lent buffer. A check is a scan, and then a listing,
-- with a baseline that is too long refused between the refusals of the scan.
use Prim.Native.Nat.{ℕ, zero, suc, ◌+◌, ◌≤◌, ◌<◌}
use Rattle.std.specs.Prelude.{◌≡◌, Bool, Result, Ok, Err, List, ◌++◌, length, drop}
use Rattle.std.proofs.Math.Path.{refl, ap, subst}
use Rattle.std.proofs.Common.{sym, ◌∙◌, arith}
use Rattle.std.proofs.Math.Bool.{true, false}
use Rattle.std.proofs.Math.Dec.{ltb}
use borrow.Author.Tests.{le-ltb, lt-ltb, ltb-false, ne_eqb}
use Rattle.text_rules.specs.Answer.{Answer, answer_at}
use Rattle.text_rules.specs.Bytes.{◌or_else◌, ◌when◌, overwritten, put_at}
use Rattle.text_rules.specs.BytesLaws.{or_else-first, or_else-rest, when-fails}
use Rattle.text_rules.specs.Sizes.{max_baseline}
use Rattle.gate_rules.specs.Baseline.{Entry, entries, entries_of_lines}
use Rattle.gate_rules.specs.Calls.{CheckAnswer, Checked, check_answer, check_call, check_number, output_after, records_after, room, scan_call, scan_number, work_after}
use Rattle.gate_rules.specs.Check.{listing, regressions, stale}
use Rattle.gate_rules.specs.Functions.{Fun, Limits}
use Rattle.gate_rules.specs.Gate.{gate}
use Rattle.gate_rules.proofs.RefusalLaws.{or_else_lem}
use Rattle.gate_rules.specs.Scan.{functions_of}
use Rattle.gate_rules.proofs.TableLaws.{answer-number}
use Rattle.gate_rules.specs.Tree.{tree_refusal}
use Rattle.answers.specs.Numbers.{number_of}
use Rattle.answers.specs.declared.Refusal.{Refusal}
use Rattle.functions.specs.Shown.{Stand}
use Rattle.functions.specs.Stands.{stands}
use Rattle.gate_scan.specs.Scans.{Scans}
use Rattle.gate_check.specs.declared.CheckCounts.{CheckCounts}

-- what check hands back, as the record of the definitions
abbrev pub check_told : Result CheckCounts Refusal → CheckAnswer
check_told (Ok c) = record { number = 0; written = c.written; functions = c.functions; regressed = c.regressed; stale = c.stale }
check_told (Err e) = record { number = number_of e; written = 0; functions = 0; regressed = 0; stale = 0 }

pub record Checks (r : CheckAnswer) (c : Checked) (work records output : List ℕ) : Type 0 where
  pub number_is : r.number ≡ c.answer.number
  pub written_is : r.written ≡ c.answer.written
  pub functions-is : r.functions ≡ c.answer.functions
  pub regressed-is : r.regressed ≡ c.answer.regressed
  pub stale-is : r.stale ≡ c.answer.stale
  pub work-is : work ≡ c.work
  pub records_is : records ≡ c.records
  pub output-is : output ≡ c.output

-- a refusal, whose counts are 0
pub record Refuses (r : CheckAnswer) (number : ℕ) : Type 0 where
  pub number_is : r.number ≡ number
  pub written_is : r.written ≡ 0
  pub functions-is : r.functions ≡ 0
  pub regressed-is : r.regressed ≡ 0
  pub stale-is : r.stale ≡ 0

-- an error's counts are 0
pub refuses : (e : Refusal) → Refuses (check_told (Err e)) (number_of e)
refuses e = record { number_is = refl; written_is = refl; functions-is = refl; regressed-is = refl; stale-is = refl }

-- the listing of a tree against a baseline's lines
abbrev pub listing_in : Limits → (tree lines : List ℕ) → List ℕ
listing_in L tree lines = listing L (entries_of_lines lines) (functions_of gate tree)

-- the number of a check of which only the listing is left: 9 where the output is too short for it
abbrev pub last_number : Limits → List Entry → List Fun → (output : List ℕ) → ℕ
last_number L es fs output = 9 when ltb (length output) (length (listing L es fs))

-- what is then answered, and what the output becomes
pub record Tells (r : CheckAnswer) (L : Limits) (es : List Entry) (fs : List Fun) (output output' : List ℕ) : Type 0 where
  pub number_is : r.number ≡ (check_answer L (last_number L es fs output) es fs).number
  pub written_is : r.written ≡ (check_answer L (last_number L es fs output) es fs).written
  pub functions-is : r.functions ≡ (check_answer L (last_number L es fs output) es fs).functions
  pub regressed-is : r.regressed ≡ (check_answer L (last_number L es fs output) es fs).regressed
  pub stale-is : r.stale ≡ (check_answer L (last_number L es fs output) es fs).stale
  pub output-is : output' ≡ output_after (last_number L es fs output) (listing L es fs) output

module _ (r : CheckAnswer) (L : Limits) (es : List Entry) (fs : List Fun) (output : List ℕ) where
  -- the listing does not fit
  pub tells-short : length output < length (listing L es fs) → Refuses r 9 → Tells r L es fs output output
  tells-short h q =
      let e = lt-ltb (length output) (length (listing L es fs)) h in
      record {
        number_is = rw e q.number_is;
        written_is = rw e q.written_is;
        functions-is = rw e q.functions-is;
        regressed-is = rw e q.regressed-is;
        stale-is = rw e q.stale-is;
        output-is = rw e;
      }

  at-start : (xs s : List ℕ) → put_at 0 xs s ≡ overwritten xs s
  at-start xs s = let e : 0 + length xs ≡ length xs = omega arith in ap (λ n. xs ++ drop n s) e

  -- the listing is written
  pub tells-whole : (output' : List ℕ) → length (listing L es fs) ≤ length output
      → (r.number ≡ 0) × (r.written ≡ length (listing L es fs)) × (r.functions ≡ length fs) × (r.regressed ≡ length (regressions L es fs)) × (r.stale ≡ length (stale es fs))
      → output' ≡ put_at 0 (listing L es fs) output → Tells r L es fs output output'
  tells-whole output' h q o =
      let e = le-ltb (length output) (length (listing L es fs)) h in
      record {
        number_is = rw e q.0;
        written_is = rw e q.1;
        functions-is = rw e q.2;
        regressed-is = rw e q.3;
        stale-is = rw e q.4;
        output-is = rw e (o ∙ at-start (listing L es fs) output);
      }

module _ (L : Limits) (tree baseline work records' output : List ℕ) where
  -- what the call answers and leaves at a number
  at : ℕ → Checked
  at n =
      record {
        answer = check_answer L n (entries baseline) (functions_of gate tree);
        work = work_after gate n tree work;
        records = records_after gate n tree records';
        output = output_after n (listing L (entries baseline) (functions_of gate tree)) output;
      }

  call_at : (n : ℕ) → check_number gate L tree baseline work records' output ≡ n → at n ≡ check_call gate L tree baseline work records' output
  unfolding check_call at
  call_at n e = ap at (sym e)

  -- a refusal, given what it leaves of work and records
  refused-at : (r : CheckAnswer) (n : ℕ) (w l : List ℕ) → 1 ≤ n → w ≡ work_after gate n tree work → l ≡ records_after gate n tree records' → Refuses r n → Checks r (at n) w l output
  unfolding at
  refused-at r zero w l h e d q = absurd (omega arith)
  refused-at r (suc n) w l h e d q =
      record {
        number_is = q.number_is;
        written_is = q.written_is;
        functions-is = q.functions-is;
        regressed-is = q.regressed-is;
        stale-is = q.stale-is;
        work-is = e;
        records_is = d;
        output-is = refl;
      }

  -- ---- the baseline is too long

  number-long : max_baseline < length baseline → check_number gate L tree baseline work records' output ≡ tree_refusal tree or_else 5 when ltb (length work) (length tree) or_else 7
  unfolding check_number gate
  number-long h = rw (lt-ltb max_baseline (length baseline) h)

  work-stays : (n : ℕ) → 1 ≤ n → n ≤ 7 → work ≡ work_after gate n tree work
  unfolding work_after
  work-stays n h k = rw (ne_eqb n 0 (λ q. omega arith), ne_eqb n 8 (λ q. omega arith), ne_eqb n 9 (λ q. omega arith))

  records_stay : (n : ℕ) → 1 ≤ n → n ≤ 7 → records' ≡ records_after gate n tree records'
  unfolding records_after
  records_stay n h k = rw (ne_eqb n 0 (λ q. omega arith), ne_eqb n 8 (λ q. omega arith), ne_eqb n 9 (λ q. omega arith))

  pub long_checks : (r : CheckAnswer) (n : ℕ) → max_baseline < length baseline → (n ≡ tree_refusal tree or_else 5 when ltb (length work) (length tree) or_else 7) × (1 ≤ n) × (n ≤ 7) → Refuses r n
      → Checks r (check_call gate L tree baseline work records' output) work records' output
  long_checks r n h e q =
      subst (λ c. Checks r c work records' output) (call_at n (number-long h ∙ sym e.0))
      (refused-at r n work records' e.1 (work-stays n e.1 e.2) (records_stay n e.1 e.2) q)

  -- ---- the baseline is short enough: the number is the scan's, and where that is 0 the output may be too short

  module _ (short : length baseline ≤ max_baseline) where
    abbrev last : ℕ
    last = last_number L (entries baseline) (functions_of gate tree) output

    number-is_scan : check_number gate L tree baseline work records' output ≡ scan_number gate tree work records' or_else last
    unfolding check_number scan_number
    number-is_scan =
        let many = 8 when ltb (room records') (length (functions_of gate tree)) in
        let small = 5 when ltb (length work) (length tree) in
        rw (le-ltb max_baseline (length baseline) short)
        (sym (or_else_lem (gate.refusal tree) (small or_else many) last ∙ ap (λ n. gate.refusal tree or_else n) (or_else_lem small many last)))

    module _ (s : Answer) (w l : List ℕ) (scanned : Scans s (scan_call gate tree work records') w l) where
      scan_number_lem : s.number ≡ scan_number gate tree work records'
      unfolding scan_call
      scan_number_lem = scanned.number_is ∙ answer-number (scan_number gate tree work records') 0 (length (functions_of gate tree))

      work-at : (n : ℕ) → scan_number gate tree work records' ≡ n → w ≡ work_after gate n tree work
      unfolding scan_call
      work-at n e = scanned.work-is ∙ ap (λ m. work_after gate m tree work) e

      records-at : (n : ℕ) → scan_number gate tree work records' ≡ n → l ≡ records_after gate n tree records'
      unfolding scan_call
      records-at n e = scanned.records_is ∙ ap (λ m. records_after gate m tree records') e

      number-refused : (n : ℕ) → scan_number gate tree work records' ≡ n → 1 ≤ n → check_number gate L tree baseline work records' output ≡ n
      number-refused zero e h = absurd (omega arith)
      number-refused (suc n) e h = number-is_scan ∙ rw e

      -- the scan was refused
      pub refused_checks : (r : CheckAnswer) → 1 ≤ s.number → Refuses r s.number → Checks r (check_call gate L tree baseline work records' output) w l output
      refused_checks r h q =
          let e = sym scan_number_lem in
          subst (λ c. Checks r c w l output) (call_at s.number (number-refused s.number e h))
          (refused-at r s.number w l h (work-at s.number e) (records-at s.number e) q)

      module _ (zero_is : s.number ≡ 0) where
        scan_zero : scan_number gate tree work records' ≡ 0
        scan_zero = sym scan_number_lem ∙ zero_is

        -- the records stand
        pub scan_stands : Stand tree l
        unfolding scan_number gate records_after
        scan_stands =
            let rest = or_else-rest (tree_refusal tree) _ scan_zero in
            let few = ltb-false (room records') (length (functions_of gate tree)) (when-fails 7 _ (or_else-rest (5 when ltb (length work) (length tree)) _ rest)) in
            subst (Stand tree) (sym (records-at 0 scan_zero)) (stands tree records' (or_else-first (tree_refusal tree) _ scan_zero) few)

        pub scan_count : s.functions ≡ length (functions_of gate tree)
        unfolding scan_call
        scan_count = scanned.functions-is ∙ ap (λ n. (answer_at n 0 (length (functions_of gate tree))).functions) scan_zero

        -- work and records are at 9 what they are at 0
        work-last : (b : Bool) → work_after gate 0 tree work ≡ work_after gate (9 when b) tree work
        unfolding work_after
        work-last true = refl
        work-last false = refl

        records-last : (b : Bool) → records_after gate 0 tree records' ≡ records_after gate (9 when b) tree records'
        unfolding records_after
        records-last true = refl
        records-last false = refl

        told_at : (r : CheckAnswer) (es : List Entry) (out : List ℕ) → es ≡ entries baseline → Tells r L es (functions_of gate tree) output out → Checks r (at last) w l out
        unfolding at
        told_at r es out e t =
            let told = subst (λ d. Tells r L d (functions_of gate tree) output out) e t in
            let b = ltb (length output) (length (listing L (entries baseline) (functions_of gate tree))) in
            record {
              number_is = told.number_is;
              written_is = told.written_is;
              functions-is = told.functions-is;
              regressed-is = told.regressed-is;
              stale-is = told.stale-is;
              work-is = work-at 0 scan_zero ∙ work-last b;
              records_is = records-at 0 scan_zero ∙ records-last b;
              output-is = told.output-is;
            }

        pub told_checks : (r : CheckAnswer) (es : List Entry) (out : List ℕ) → es ≡ entries baseline → Tells r L es (functions_of gate tree) output out
            → Checks r (check_call gate L tree baseline work records' output) w l out
        told_checks r es out e t =
            let number : check_number gate L tree baseline work records' output ≡ last = number-is_scan ∙ rw scan_zero in
            subst (λ c. Checks r c w l out) (call_at last number) (told_at r es out e t)

-- the same at equal limits
pub checks_at : {r : CheckAnswer} {w l o : List ℕ} (L M : Limits) (tree baseline work records' output : List ℕ) → L ≡ M → Checks r (check_call gate L tree baseline work records' output) w l o
    → Checks r (check_call gate M tree baseline work records' output) w l o
checks_at {r} {w} {l} {o} L M tree baseline work records' output e c = subst (λ K. Checks r (check_call gate K tree baseline work records' output) w l o) e c
