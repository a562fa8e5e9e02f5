-- What report answers and leaves, one named equation for each of the answer's numbers, for each lent buffer and for the lent table.
use Prim.Native.Nat.{ℕ, zero, suc, ◌≤◌, ◌<◌}
use Rattle.std.specs.Prelude.{Result, ◌≡◌, Bool, ◌||◌, List, [], ◌∷◌, ◌++◌, map, eqb, length, drop, replicate}
use Rattle.std.proofs.Math.Path.{refl, ap, subst, sym}
use Rattle.std.proofs.Common.{ap₂, ◌∙◌}
use Rattle.std.proofs.Math.Bool.{true, false}
use native.Mathlib.Omega.{arith}
use Rattle.std.proofs.Math.Dec.{ltb}
use Rattle.std.proofs.Math.ListN.{length-map}
use borrow.Author.Tests.{le-ltb, lt-ltb, ltb-false}
use Rattle.text_rules.specs.Answer.{Answer, answer_at}
use Rattle.text_rules.specs.Bytes.{◌or_else◌, ◌when◌, if◌then◌otherwise◌, overwritten}
use Rattle.text_rules.specs.BytesLaws.{map-append, or_else-first, or_else-rest, when-fails}
use Rattle.gate_rules.proofs.RefusalLaws.{or_else_lem}
use Rattle.gate_rules.proofs.BufferLaws.{refusal-most}
use Rattle.gate_rules.proofs.ConditionLaws.{entries-count}
use Rattle.gate_rules.proofs.TableLaws.{answer-number}
use Rattle.gate_rules.specs.Calls.{is_scanned, output_after, records_after, room, work_after}
use Rattle.gate_rules.specs.Functions.{Limits}
use Rattle.gate_rules.specs.Gate.{gate}
use Rattle.gate_rules.specs.Report as rules
use Rattle.gate_rules.specs.ReportCall.{Reported, report_call, report_number, report_of, sums_after, sums_of}
use Rattle.gate_rules.specs.Scan.{functions_of}
use Rattle.gate_rules.proofs.SumLaws.{no_sum}
use Rattle.gate_rules.specs.Tree.{file_count, sources, tree_refusal}
use Rattle.gate_scan.specs.Scans.{blanked_work, filled}
use Rattle.sums.specs.Sums.{none, stored, told}
use Rattle.sums.specs.declared.FileSum.{FileSum}
use Rattle.gate_report.specs.Listed.{Listed, late_number, report_told}
use Rattle.answers.specs.declared.Refusal.{Refusal}
use Rattle.gate_report.specs.declared.ReportCounts.{ReportCounts}

-- the first of the refusals 1 to 6, or 0
unfoldable pub early_number : List ℕ → (work entries : ℕ) → ℕ
early_number tree work entries = tree_refusal tree or_else 5 when ltb work (length tree) or_else 6 when ltb entries (file_count tree)

-- the sums that are written at a number
abbrev pub sums_at : ℕ → List ℕ → List rules.FileSum
sums_at number tree = if eqb number 0 || eqb number 9 then sums_of gate tree otherwise []

-- a table of that many entries
abbrev pub any_table : ℕ → List rules.FileSum
any_table entries = replicate entries no_sum

-- as many files as the tree's table has entries
files-count : (tree : List ℕ) → length (gate.files tree) ≡ file_count tree
unfolding gate sources
files-count tree = length-map (sources tree) _ ∙ entries-count tree (file_count tree) 0 4

-- the ways that code goes through the first refusals
module _ (tree : List ℕ) (work entries : ℕ) where
  pub early-tree : (n : ℕ) → tree_refusal tree ≡ n → 1 ≤ n → early_number tree work entries ≡ n
  unfolding early_number
  early-tree zero e h = absurd (omega arith)
  early-tree (suc n) e h = rw e

  module _ (z : tree_refusal tree ≡ 0) where
    pub early-five : work < length tree → early_number tree work entries ≡ 5
    unfolding early_number
    early-five h = rw (z, lt-ltb work (length tree) h)

    module _ (long : length tree ≤ work) where
      pub early_six : entries < file_count tree → early_number tree work entries ≡ 6
      unfolding early_number
      early_six h = rw (z, le-ltb work (length tree) long, lt-ltb entries (file_count tree) h)

      pub early-none : file_count tree ≤ entries → early_number tree work entries ≡ 0
      unfolding early_number
      early-none h = rw (z, le-ltb work (length tree) long, le-ltb entries (file_count tree) h)

  -- and what follows where none of them applies
  module _ (e : early_number tree work entries ≡ 0) where
    rest-five : (5 when ltb work (length tree) or_else 6 when ltb entries (file_count tree)) ≡ 0
    unfolding early_number
    rest-five = or_else-rest (tree_refusal tree) _ e

    pub early-unrefused : tree_refusal tree ≡ 0
    unfolding early_number
    early-unrefused = or_else-first (tree_refusal tree) _ e

    pub early-long : length tree ≤ work
    early-long = ltb-false work (length tree) (when-fails 4 _ (or_else-first (5 when ltb work (length tree)) _ rest-five))

    pub early-entries : file_count tree ≤ entries
    early-entries = ltb-false entries (file_count tree) (when-fails 5 _ (or_else-rest (5 when ltb work (length tree)) _ rest-five))

  early-most : early_number tree work entries ≤ 6
  unfolding early_number
  early-most = most (tree_refusal tree) (refusal-most tree) (ltb work (length tree)) (ltb entries (file_count tree))
    where
      most : (n : ℕ) → n ≤ 4 → (b c : Bool) → (n or_else 5 when b or_else 6 when c) ≤ 6
      most zero h true c = omega arith
      most zero h false true = omega arith
      most zero h false false = omega arith
      most (suc n) h b c = omega arith

-- the table, as it is stored and as the rules tell it
map-told : (es : List rules.FileSum) → map told (map stored es) ≡ es
map-told [] = refl
map-told (e ∷ es) = ap (λ ds. e ∷ ds) (map-told es)

map-drop : (n : ℕ) (t : List FileSum) → map told (drop n t) ≡ drop n (map told t)
map-drop zero t = refl
map-drop (suc n) [] = refl
map-drop (suc n) (e ∷ t) = map-drop n t

-- the table as the rules tell it, after its first entries were stored
told-overwritten : (es : List rules.FileSum) (t : List FileSum) → map told (overwritten (map stored es) t) ≡ overwritten es (map told t)
told-overwritten es t =
    map-append told (map stored es) (drop (length (map stored es)) t)
    ∙ ap₂ ◌++◌ (map-told es) (ap (λ n. map told (drop n t)) (length-map es stored) ∙ map-drop (length es) t)

sums-after : (n : ℕ) (tree : List ℕ) (sums : List rules.FileSum) → overwritten (sums_at n tree) sums ≡ sums_after gate n tree sums
unfolding sums_after
sums-after n tree sums = by (eqb n 0 || eqb n 9)
  where
    by : (b : Bool) → overwritten (if b then sums_of gate tree otherwise []) sums ≡ (if b then overwritten (sums_of gate tree) sums otherwise sums)
    by true = refl
    by false = refl

pub record Reports (r : Answer) (c : Reported) (work records : List ℕ) (sums : List FileSum) (output : List ℕ) : Type 0 where
  pub number_is : r.number ≡ c.answer.number
  pub written_is : r.written ≡ c.answer.written
  pub functions-is : r.functions ≡ c.answer.functions
  pub work-is : work ≡ c.work
  pub records_is : records ≡ c.records
  pub sums-is : map told sums ≡ c.sums
  pub output-is : output ≡ c.output

module _ (L : Limits) (tree work records : List ℕ) (table : List FileSum) (output : List ℕ) where
  -- what is answered and left at a number
  record ReportsAt (n : ℕ) (r : Answer) (work' records' : List ℕ) (left : List FileSum) (output' : List ℕ) : Type 0 where
    number_is : r.number ≡ n
    written_is : r.written ≡ (answer_at n (length (report_of gate L tree)) (length (functions_of gate tree))).written
    functions-is : r.functions ≡ (answer_at n (length (report_of gate L tree)) (length (functions_of gate tree))).functions
    work-is : work' ≡ work_after gate n tree work
    records_is : records' ≡ records_after gate n tree records
    sums-is : map told left ≡ sums_after gate n tree (map told table)
    output-is : output' ≡ output_after n (report_of gate L tree) output

  abbrev number : ℕ
  number = report_number gate L tree work records (map told table) output

  reports_at : (n : ℕ) (r : Answer) (w l : List ℕ) (left : List FileSum) (o : List ℕ) → number ≡ n → ReportsAt n r w l left o → Reports r (report_call gate L tree work records (map told table) output) w l left o
  unfolding report_call
  reports_at n r w l left o e q =
      let d = subst (λ m. ReportsAt m r w l left o) (sym e) q in
      record {
        number_is = d.number_is ∙ sym (answer-number number (length (report_of gate L tree)) (length (functions_of gate tree)));
        written_is = d.written_is;
        functions-is = d.functions-is;
        work-is = d.work-is;
        records_is = d.records_is;
        sums-is = d.sums-is;
        output-is = d.output-is;
      }

  unfoldable late : ℕ
  late = 8 when ltb (room records) (length (functions_of gate tree)) or_else late_number L tree output

  number-is-early : number ≡ early_number tree (length work) (length table) or_else late
  unfolding report_number early_number late gate
  number-is-early =
      let five = 5 when ltb (length work) (length tree) in
      let six = 6 when ltb (length table) (file_count tree) in
      ap (λ b. tree_refusal tree or_else (five or_else (6 when b or_else late))) (ap₂ ltb (length-map table told) (files-count tree))
      ∙ sym (or_else_lem (tree_refusal tree) (five or_else six) late ∙ ap (λ n. tree_refusal tree or_else n) (or_else_lem five six late))

  -- where no sums are written the table stays
  stays_table : (n : ℕ) → (eqb n 0 || eqb n 9) ≡ false → map told table ≡ sums_after gate n tree (map told table)
  stays_table n e = sym (ap (λ b. overwritten (if b then sums_of gate tree otherwise []) (map told table)) e) ∙ sums-after n tree (map told table)

  -- a refusal that leaves every buffer and the table
  stay_with : (r : Answer) (m : ℕ) → is_scanned (suc m) ≡ false → (eqb (suc m) 0 || eqb (suc m) 9) ≡ false
      → (r.number ≡ suc m) × (r.written ≡ 0) × (r.functions ≡ 0) → ReportsAt (suc m) r work records table output
  unfolding work_after records_after
  stay_with r m a b q =
      record {
        number_is = q.0;
        written_is = q.1;
        functions-is = q.2;
        work-is = rw a;
        records_is = rw a;
        sums-is = stays_table (suc m) b;
        output-is = refl;
      }

  stays : (r : Answer) (n : ℕ) → 1 ≤ n → n ≤ 6 → (r.number ≡ n) × (r.written ≡ 0) × (r.functions ≡ 0) → ReportsAt n r work records table output
  stays r zero h k q = absurd (omega arith)
  stays r (suc zero) h k q = stay_with r 0 refl refl q
  stays r (suc (suc zero)) h k q = stay_with r 1 refl refl q
  stays r (suc (suc (suc zero))) h k q = stay_with r 2 refl refl q
  stays r (suc (suc (suc (suc zero)))) h k q = stay_with r 3 refl refl q
  stays r (suc (suc (suc (suc (suc zero))))) h k q = stay_with r 4 refl refl q
  stays r (suc (suc (suc (suc (suc (suc zero)))))) h k q = stay_with r 5 refl refl q
  stays r (suc (suc (suc (suc (suc (suc (suc n))))))) h k q = absurd (omega arith)

  pub refused_reports : (r : Answer) (n : ℕ) → n ≡ early_number tree (length work) (length table) → 1 ≤ n → (r.number ≡ n) × (r.written ≡ 0) × (r.functions ≡ 0)
      → Reports r (report_call gate L tree work records (map told table) output) work records table output
  refused_reports r n e h q =
      reports_at n r work records table output (number-is-early ∙ ap (λ m. m or_else late) (sym e) ∙ stop n h)
      (stays r n h (omega (arith, e, early-most tree (length work) (length table))) q)
    where
      stop : (m : ℕ) → 1 ≤ m → m or_else late ≡ m
      stop zero h = absurd (omega arith)
      stop (suc m) h = refl

  -- none of them applies, and the tree is scanned
  module _ (e : early_number tree (length work) (length table) ≡ 0) (w l : List ℕ) (w-is : w ≡ blanked_work tree work records) (l-is : l ≡ filled tree work records) where
    number-late : number ≡ late
    number-late = number-is-early ∙ ap (λ m. m or_else late) e

    many-at : (r : Answer) → (r.number ≡ 8) × (r.written ≡ 0) × (r.functions ≡ 0) → ReportsAt 8 r w l table output
    unfolding work_after records_after gate
    many-at r q =
        record {
          number_is = q.0;
          written_is = q.1;
          functions-is = q.2;
          work-is = w-is;
          records_is = l-is;
          sums-is = stays_table 8 refl;
          output-is = refl;
        }

    pub many_reports : (r : Answer) → room records < length (functions_of gate tree) → (r.number ≡ 8) × (r.written ≡ 0) × (r.functions ≡ 0)
        → Reports r (report_call gate L tree work records (map told table) output) w l table output
    unfolding late
    many_reports r h q =
        let here : number ≡ 8 = number-late ∙ rw (lt-ltb (room records) (length (functions_of gate tree)) h) in
        reports_at 8 r w l table output here (many-at r q)

    -- 0 and 9 are answered after the scan, and the table is filled
    module _ (r : Result ReportCounts Refusal) (left : List FileSum) (t : left ≡ overwritten (map stored (sums_of gate tree)) table) (o : List ℕ) (q : Listed L tree output r o) where
      listed_with : (b : Bool) → ltb (length output) (length (report_of gate L tree)) ≡ b
          → w ≡ work_after gate (9 when b) tree work → l ≡ records_after gate (9 when b) tree records → sums_at (9 when b) tree ≡ sums_of gate tree
          → ReportsAt (9 when b) (report_told r) w l left o
      listed_with b d x y z =
          record {
            number_is = q.number_is ∙ ap (λ t. 9 when t) d;
            written_is = q.written_is ∙ ap (λ t. (answer_at (9 when t) (length (report_of gate L tree)) (length (functions_of gate tree))).written) d;
            functions-is = q.functions-is ∙ ap (λ t. (answer_at (9 when t) (length (report_of gate L tree)) (length (functions_of gate tree))).functions) d;
            work-is = x;
            records_is = y;
            sums-is =
                ap (map told) t ∙ told-overwritten (sums_of gate tree) table ∙ ap (λ es. overwritten es (map told table)) (sym z)
                ∙ sums-after (9 when b) tree (map told table);
            output-is = q.output-is ∙ ap (λ t. output_after (9 when t) (report_of gate L tree) output) d;
          }

      listed_at : (b : Bool) → ltb (length output) (length (report_of gate L tree)) ≡ b → ReportsAt (9 when b) (report_told r) w l left o
      unfolding work_after records_after gate
      listed_at true d = listed_with true d w-is l-is refl
      listed_at false d = listed_with false d w-is l-is refl

      pub listed_reports : length (functions_of gate tree) ≤ room records → Reports (report_told r) (report_call gate L tree work records (map told table) output) w l left o
      unfolding late
      listed_reports h =
          let here : number ≡ late_number L tree output = number-late ∙ rw (le-ltb (room records) (length (functions_of gate tree)) h) in
          reports_at (late_number L tree output) (report_told r) w l left o here (listed_at (ltb (length output) (length (report_of gate L tree))) refl)

-- what a report with a table of its own answers and leaves
pub record ReportsAlone (r : Answer) (c : Reported) (work records output : List ℕ) : Type 0 where
  pub number_is : r.number ≡ c.answer.number
  pub written_is : r.written ≡ c.answer.written
  pub functions-is : r.functions ≡ c.answer.functions
  pub work-is : work ≡ c.work
  pub records_is : records ≡ c.records
  pub output-is : output ≡ c.output

-- a table of zeros, as it is stored
pub zeros-told : (n : ℕ) → map told (replicate n none) ≡ any_table n
zeros-told zero = refl
zeros-told (suc n) = ap (λ es. no_sum ∷ es) (zeros-told n)

pub reports_alone : (r : Answer) (L : Limits) (tree work records output w l o : List ℕ) (left : List FileSum)
    → Reports r (report_call gate L tree work records (map told (replicate 1024 none)) output) w l left o → ReportsAlone r (report_call gate L tree work records (any_table 1024) output) w l o
reports_alone r L tree work records output w l o left d =
    let e = subst (λ t. Reports r (report_call gate L tree work records t output) w l left o) (zeros-told 1024) d in
    record {
      number_is = e.number_is;
      written_is = e.written_is;
      functions-is = e.functions-is;
      work-is = e.work-is;
      records_is = e.records_is;
      output-is = e.output-is;
    }

-- by limits that are equal to those
pub reports_by : (r : Answer) (K L : Limits) (tree work records : List ℕ) (t : List rules.FileSum) (output w l : List ℕ) (left : List FileSum) (o : List ℕ) → K ≡ L
    → Reports r (report_call gate K tree work records t output) w l left o → Reports r (report_call gate L tree work records t output) w l left o
reports_by r K L tree work records t output w l left o e d = subst (λ M. Reports r (report_call gate M tree work records t output) w l left o) e d

pub alone_by_lem : (r : Answer) (K L : Limits) (tree work records : List ℕ) (t : List rules.FileSum) (output w l o : List ℕ) → K ≡ L
    → ReportsAlone r (report_call gate K tree work records t output) w l o → ReportsAlone r (report_call gate L tree work records t output) w l o
alone_by_lem r K L tree work records t output w l o e d = subst (λ M. ReportsAlone r (report_call gate M tree work records t output) w l o) e d
