-- Every call leaves what Left says, for every input.
use Prim.Native.Nat.{ℕ, zero, suc, ◌+◌, ◌-◌, ◌*◌, ◌/◌, ◌≤◌, ◌<◌, min}
use Rattle.std.specs.Prelude.{◌≡◌, ◌≢◌, ◌⊎◌, eqb, leb, get_or}
use Rattle.std.proofs.Math.Path.{refl, ap, subst}
use Rattle.std.proofs.Common.{sym, ◌∙◌, inl, inr, ⊎_elim, arith, length-append, length-drop, length-take, get_or-append-add, get_or-drop, get_or-take, eqb-true, leb-false, leb-true}
use mathlib.Core.List.{List, [], ◌∷◌, ◌++◌, map}
use Rattle.std.proofs.Math.ListN.{get_or-append, drop, length, take}
use Rattle.std.proofs.lemmas.List.{length-map}
use Rattle.std.proofs.Math.Seq.{take_all}
use Rattle.std.proofs.lemmas.Bool.{eqb-false}
use Rattle.text_rules.specs.Answer.{answer_at}
use Rattle.text_rules.specs.Bytes.{All, joined, overwritten, put_at}
use Rattle.text_rules.specs.BytesLaws.{All-append, All-map, whether}
use Rattle.text_rules.proofs.PutLaws.{put-length}
use Rattle.text_rules.specs.U32.{u32s_bytes}
use Rattle.source_rules.specs.Blank.{blanked}
use Rattle.source_rules.specs.BlankCall.{blank_call, blank_number, blank_output}
use Rattle.source_rules.proofs.BlankLaws.{blanked-length}
use Rattle.source_rules.specs.TextScan.{functions}
use Rattle.gate_rules.specs.Baseline.{Entry, entries}
use Rattle.gate_rules.proofs.BufferLaws.{blank_length, overwritten-length, records-length}
use Rattle.gate_rules.specs.Calls.{check_answer, check_call, check_number, output_after, records_after, room, scan_call, scan_number, update_answer, update_call, update_number, work_after}
use Rattle.gate_rules.specs.Check.{listing, regressions, stale}
use Rattle.gate_rules.proofs.ConditionLaws.{files-count}
use Rattle.gate_rules.specs.Exports.{exported_at, exported_blank, exported_check, exported_report, exported_scan, exported_update}
use Rattle.gate_rules.specs.Functions.{Fun, Limits}
use Rattle.gate_rules.specs.Gate.{file_of, gate}
use Rattle.gate_rules.specs.Left.{BlankLeft, CheckedLeft, Counted, ExportedLeft, OutputLeft, ReportedLeft, ScanLeft, ScannedLeft, SumsLeft, SumsWritten, UpdatedLeft, WorkBlanked, first_records}
use Rattle.gate_rules.specs.Records.{blank_into, record_bytes, records, records_of_files}
use Rattle.gate_rules.proofs.RecordsLaws.{records-count, records-wide}
use Rattle.gate_rules.specs.Report.{FileSum, no_sum}
use Rattle.gate_rules.specs.ReportCall.{report_call, report_number, report_of, sums_after, sums_of}
use Rattle.gate_rules.specs.Scan.{functions_of}
use Rattle.gate_rules.proofs.SumLaws.{file-sum, sums-length}
use Rattle.gate_rules.specs.Table.{Fails, FewCounts, FewSums, First, LongBaseline, ManyFunctions, Row, TooShort, ◌if◌, check_table, report_table, scan_table, tree_rows, update_table}
use Rattle.gate_rules.proofs.TableLaws.{answer-number, at_most, check_different, check-number, checked_number, exactly_zero, exported_check-first, exported_report-first, exported_scan_first, exported_update-first, part-fails, past, report_different, report-number, scan_number_lem, update_different, update-number, updated_number}
use Rattle.gate_rules.specs.Tree.{Source, file_count, sources}
use Rattle.gate_rules.proofs.TreeLaws.{InTree, SoundTree, sound, sources-placed}
use Rattle.gate_rules.specs.Update.{baseline_text, recorded}
use Rattle.gate_rules.proofs.WorkLaws.{work-holds}

-- WORK

-- bytes outside a part that is put stay
put-outside : (at : ℕ) (bytes s : List ℕ) (i : ℕ) → at + length bytes ≤ length s → (i < at) ⊎ (at + length bytes ≤ i) → get_or (put_at at bytes s) i 0 ≡ get_or s i 0
put-outside at bytes s i fits (inl h) =
    get_or-append (take at s ++ bytes) (drop (at + length bytes) s) 0 i (simp (length-append, length-take) (omega arith))
    ∙ get_or-append (take at s) bytes 0 i (simp length-take (omega arith))
    ∙ get_or-take at s i 0 h
put-outside at bytes s i fits (inr h) =
    let front = take at s ++ bytes in
    let size : length front ≡ at + length bytes = simp (length-append, length-take) (omega arith) in
    let there : i ≡ length front + (i - (at + length bytes)) = omega arith in
    let back : at + length bytes + (i - (at + length bytes)) ≡ i = omega arith in
    ap (λ k. get_or (put_at at bytes s) k 0) there
    ∙ get_or-append-add front (drop (at + length bytes) s) (i - (at + length bytes)) 0
    ∙ get_or-drop (at + length bytes) s (i - (at + length bytes)) 0
    ∙ ap (λ k. get_or s k 0) back

blank_outside : (tree : List ℕ) (files : List Source) (work : List ℕ) → All (InTree tree) files → length tree ≤ length work
    → (i : ℕ) → All (λ f. (i < f.text_at) ⊎ (f.text_at + length f.text ≤ i)) files → get_or (blank_into files work) i 0 ≡ get_or work i 0
unfolding blank_into
blank_outside tree [] work p l i h = refl
blank_outside tree (f ∷ fs) work p l i h =
    let size = blanked-length f.text in
    let fits : f.text_at + length (blanked f.text) ≤ length work = omega (arith, p.0.text-inside) in
    let same = put-length f.text_at (blanked f.text) work fits in
    blank_outside tree fs (put_at f.text_at (blanked f.text) work) p.1 (omega arith) i h.1
    ∙ put-outside f.text_at (blanked f.text) work i fits (subst (λ n. (i < f.text_at) ⊎ (f.text_at + n ≤ i)) (sym size) h.0)

pub work-blanked : (tree work : List ℕ) → SoundTree tree → length tree ≤ length work → WorkBlanked tree work (blank_into (sources tree) work)
work-blanked tree work t l =
    record {
      blanked-work = refl;
      same_length = blank_length tree (sources tree) work (sources-placed tree t) l;
      texts = work-holds tree t work l;
      outside = λ i h. blank_outside tree (sources tree) work (sources-placed tree t) l i h;
    }

-- RECORDS

-- the first so many, of no more than there are
take-map : {A B : Type 0} (g : A → B) (n : ℕ) (l : List A) → take n (map g l) ≡ map g (take n l)
take-map g zero l = refl
take-map g (suc n) [] = refl
take-map g (suc n) (x ∷ l) = ap (λ r. g x ∷ r) (take-map g n l)

take-least : {A : Type 0} (n m : ℕ) (l : List A) → m ≡ min (length l) n → take n l ≡ take m l
take-least zero m l e = let z : m ≡ 0 = omega arith in rw z
take-least (suc n) m [] e = let z : m ≡ 0 = omega arith in rw z
take-least (suc n) zero (x ∷ l) e = absurd (omega arith)
take-least (suc n) (suc m) (x ∷ l) e = ap (λ r. x ∷ r) (take-least n m l (omega arith))

bytes_length : (n : ℕ) (rs : List (List ℕ)) → All (λ r. length (record_bytes r) ≡ 32) rs → n ≤ length rs → length (joined (map record_bytes (take n rs))) ≡ 32 * n
bytes_length zero rs h l = refl
bytes_length (suc n) [] h l = absurd (omega arith)
bytes_length (suc n) (r ∷ rs) h l = simp length-append (omega (arith, h.0, bytes_length n rs h.1 (omega arith)))

records-put : (tree buffer : List ℕ) (n m : ℕ) → m ≡ min (length (records tree)) n
    → overwritten (joined (take n (gate.records_of tree))) buffer ≡ first_records m tree buffer
unfolding gate records
records-put tree buffer n m e =
    let rs = records_of_files (sources tree) in
    let same : take n (map record_bytes rs) ≡ map record_bytes (take m rs) = take-map record_bytes n rs ∙ ap (map record_bytes) (take-least n m rs e) in
    let size = bytes_length m rs (records-wide (sources tree)) (omega arith) in
    ap (λ bytes. overwritten (joined bytes) buffer) same ∙ ap (λ k. joined (map record_bytes (take m rs)) ++ drop k buffer) size

-- WHAT THE NUMBER TELLS

-- a fact of every number from 1 to 7, or to 8, from that of each
one-to_seven : (P : ℕ → Type 0) → P 1 → P 2 → P 3 → P 4 → P 5 → P 6 → P 7 → (n : ℕ) → 1 ≤ n → n ≤ 7 → P n
one-to_seven P p₁ p₂ p₃ p₄ p₅ p₆ p₇ zero a b = absurd (omega arith)
one-to_seven P p₁ p₂ p₃ p₄ p₅ p₆ p₇ (suc zero) a b = p₁
one-to_seven P p₁ p₂ p₃ p₄ p₅ p₆ p₇ (suc (suc zero)) a b = p₂
one-to_seven P p₁ p₂ p₃ p₄ p₅ p₆ p₇ (suc (suc (suc zero))) a b = p₃
one-to_seven P p₁ p₂ p₃ p₄ p₅ p₆ p₇ (suc (suc (suc (suc zero)))) a b = p₄
one-to_seven P p₁ p₂ p₃ p₄ p₅ p₆ p₇ (suc (suc (suc (suc (suc zero))))) a b = p₅
one-to_seven P p₁ p₂ p₃ p₄ p₅ p₆ p₇ (suc (suc (suc (suc (suc (suc zero)))))) a b = p₆
one-to_seven P p₁ p₂ p₃ p₄ p₅ p₆ p₇ (suc (suc (suc (suc (suc (suc (suc zero))))))) a b = p₇
one-to_seven P p₁ p₂ p₃ p₄ p₅ p₆ p₇ (suc (suc (suc (suc (suc (suc (suc (suc n)))))))) a b = absurd (omega arith)

one-to-eight : (P : ℕ → Type 0) → ((n : ℕ) → 1 ≤ n → n ≤ 7 → P n) → P 8 → (n : ℕ) → 1 ≤ n → n ≤ 8 → P n
one-to-eight P p₇ p₈ n a b =
    elim (whether (eqb n 8)) [
      | inl e ↦ rw (eqb-true n 8 e) p₈
      | inr e ↦ let m = eqb-false n 8 e in p₇ n a (omega arith)
    ]

-- a fact of 0, 8 and 9, or of 0 and 9, from that of each
at_scanned : (P : ℕ → Type 0) → P 0 → P 8 → P 9 → (n : ℕ) → (n ≡ 0) ⊎ (n ≡ 8) ⊎ (n ≡ 9) → P n
at_scanned P p₀ p₈ p₉ n (inl e) = rw e p₀
at_scanned P p₀ p₈ p₉ n (inr (inl e)) = rw e p₈
at_scanned P p₀ p₈ p₉ n (inr (inr e)) = rw e p₉

at_listed : (P : ℕ → Type 0) → P 0 → P 9 → (n : ℕ) → (n ≡ 0) ⊎ (n ≡ 9) → P n
at_listed P p₀ p₉ n (inl e) = rw e p₀
at_listed P p₀ p₉ n (inr e) = rw e p₉

-- the numbers with which a tree is scanned are none of those before them
apart : (n : ℕ) → (n ≡ 0) ⊎ (n ≡ 8) ⊎ (n ≡ 9) → (k : ℕ) → 1 ≤ k → k ≤ 7 → n ≢ k
apart n (inl e) k a b q = omega arith
apart n (inr (inl e)) k a b q = omega arith
apart n (inr (inr e)) k a b q = omega arith

not_eight : (n : ℕ) → (n ≡ 0) ⊎ (n ≡ 9) → n ≢ 8
not_eight n (inl e) q = omega arith
not_eight n (inr e) q = omega arith

with_eight : {n : ℕ} → (n ≡ 0) ⊎ (n ≡ 9) → (n ≡ 0) ⊎ (n ≡ 8) ⊎ (n ≡ 9)
with_eight (inl e) = inl e
with_eight (inr e) = inr (inr e)

-- a row before 8
abbrev Early : Row → Type 0
Early r = (1 ≤ r.number) × (r.number ≤ 7)

-- A call whose table has the tree's rows, then 5, then perhaps 6 or 7, then 8, and then others
module _ (tree work records' : List ℕ) (short : Type 0) (fits : (short → ⊥) → length tree ≤ length work) (between behind : List Row)
    (six-seven : All Early between) (number : ℕ)
    (f : First (tree_rows tree ++ (5 if short ∷ between) ++ (8 if ManyFunctions records' tree ∷ behind)) number) where
  before-eight : (number ≡ 0) ⊎ (number ≡ 8) ⊎ (number ≡ 9) → All Fails (tree_rows tree ++ (5 if short ∷ between))
  before-eight s =
      let first : All Early (tree_rows tree ++ (5 if short ∷ [])) = omega arith in
      let rows = tree_rows tree ++ (5 if short ∷ between) in
      past rows (8 if ManyFunctions records' tree ∷ behind) number
      (All-map Early (λ r. number ≢ r.number) (λ r h. apart number s r.number h.0 h.1) rows (All-append Early (tree_rows tree ++ (5 if short ∷ [])) between first six-seven))
      f

  tree-sound : (number ≡ 0) ⊎ (number ≡ 8) ⊎ (number ≡ 9) → SoundTree tree
  tree-sound s = let h = before-eight s in sound tree (h.0, (h.1.0, (h.1.1.0, (h.1.1.1.0, tt))))

  work-fits : (number ≡ 0) ⊎ (number ≡ 8) ⊎ (number ≡ 9) → length tree ≤ length work
  work-fits s = fits (before-eight s).1.1.1.1.0

  eight-fails : (number ≡ 0) ⊎ (number ≡ 9) → Fails (8 if ManyFunctions records' tree)
  eight-fails s =
      let rows = tree_rows tree ++ (5 if short ∷ between) in
      (past (8 if ManyFunctions records' tree ∷ []) behind number (not_eight number s, tt) (part-fails rows _ number (before-eight (with_eight s)) f)).0

  all_fit : (number ≡ 0) ⊎ (number ≡ 9) → length (functions_of gate tree) ≤ room records'
  all_fit s =
      let a : 8192 < length (functions_of gate tree) → ⊥ = λ l. eight-fails s (inl l) in
      let b : length records' / 32 < length (functions_of gate tree) → ⊥ = λ l. eight-fails s (inr l) in
      omega arith

  pub scan_leaves : ScanLeft tree work records' number (work_after gate number tree work) (records_after gate number tree records')
  unfolding work_after records_after gate
  scan_leaves =
      record {
        refused-work = one-to_seven (λ n. work_after gate n tree work ≡ work) refl refl refl refl refl refl refl number;
        refused-records = one-to_seven (λ n. records_after gate n tree records' ≡ records') refl refl refl refl refl refl refl number;
        scanned_work = λ s.
            let there = work-blanked tree work (tree-sound s) (work-fits s) in
            at_scanned (λ n. WorkBlanked tree work (work_after gate n tree work)) there there there number s;
        eight-records = λ e.
            let count = records-count tree (tree-sound (inr (inl e))) in
            let first = min (length (functions_of gate tree)) (room records') in
            subst (λ n. records_after gate n tree records' ≡ first_records first tree records') (sym e) (records-put tree records' (room records') first (omega arith));
        written-records = λ s.
            let count = records-count tree (tree-sound (with_eight s)) in
            let fit = all_fit s in
            let all = length (functions_of gate tree) in
            let whole : take all (records tree) ≡ records tree = take_all all (records tree) (omega arith) in
            let there = records-put tree records' (room records') all (omega arith) ∙ ap (λ rs. joined (map record_bytes rs) ++ drop (32 * all) records') whole in
            at_listed (λ n. records_after gate n tree records' ≡ joined (map record_bytes (records tree)) ++ drop (32 * all) records') there there number s;
      }

-- OUTPUT, SUMS, COUNTS

-- what is written matters on success only
output-leaves_as : (number : ℕ) (text text' output : List ℕ) → (number ≡ 0 → text ≡ text') → OutputLeft text' output number (output_after number text output)
output-leaves_as zero text text' output h = record { refused-output = λ l. absurd (omega arith); written-output = λ e. ap (λ t. overwritten t output) (h refl) }
output-leaves_as (suc n) text text' output h = record { refused-output = λ l. refl; written-output = λ e. absurd (omega arith) }

pub output-leaves : (number : ℕ) (text output : List ℕ) → OutputLeft text output number (output_after number text output)
output-leaves number text output = output-leaves_as number text text output (λ e. refl)

sums-count : (tree : List ℕ) → length (sums_of gate tree) ≡ length (sources tree)
unfolding sums_of gate
sums-count tree = sums-length gate.functions_in 0 (gate.files tree) ∙ length-map (sources tree) file_of

sums-written : (tree : List ℕ) (sums : List FileSum) → SumsWritten tree sums (overwritten (sums_of gate tree) sums)
unfolding file_count
sums-written tree sums =
    record {
      written = ap (λ k. sums_of gate tree ++ drop k sums) (sums-count tree);
      each = λ k h.
          get_or-append (sums_of gate tree) (drop (length (sums_of gate tree)) sums) no_sum k (omega (arith, sums-count tree))
          ∙ file-sum tree k (omega (arith, files-count tree));
    }

sums_leave : (tree : List ℕ) (sums : List FileSum) (number : ℕ) → SumsLeft tree sums number (sums_after gate number tree sums)
unfolding sums_after
sums_leave tree sums number =
    let same : ℕ → Type 0 = λ n. sums_after gate n tree sums ≡ sums in
    let there = sums-written tree sums in
    record {
      refused-sums = one-to-eight same (one-to_seven same refl refl refl refl refl refl refl) refl number;
      written-sums = at_listed (λ n. SumsWritten tree sums (sums_after gate n tree sums)) there there number;
    }

answer-counts : (number written functions : ℕ) → let a = answer_at number written functions in Counted (written ∷ functions ∷ []) a.number (a.written ∷ a.functions ∷ [])
answer-counts zero written functions = record { refused-counts = λ h. absurd (omega arith); success-counts = λ e. refl }
answer-counts (suc n) written functions = record { refused-counts = λ h. (refl, (refl, tt)); success-counts = λ e. absurd (omega arith) }

module _ (L : Limits) where
  check-counts : (number : ℕ) (es : List Entry) (fs : List Fun) → let a = check_answer L number es fs in
      Counted (length (listing L es fs) ∷ length fs ∷ length (regressions L es fs) ∷ length (stale es fs) ∷ []) a.number (a.written ∷ a.functions ∷ a.regressed ∷ a.stale ∷ [])
  check-counts zero es fs = record { refused-counts = λ h. absurd (omega arith); success-counts = λ e. refl }
  check-counts (suc n) es fs = record { refused-counts = λ h. (refl, (refl, (refl, (refl, tt)))); success-counts = λ e. absurd (omega arith) }

  update-counts : (number : ℕ) (fs : List Fun) → let a = update_answer L number fs in
      Counted (length (baseline_text L fs) ∷ length fs ∷ length (recorded L fs) ∷ []) a.number (a.written ∷ a.functions ∷ a.recorded ∷ [])
  update-counts zero fs = record { refused-counts = λ h. absurd (omega arith); success-counts = λ e. refl }
  update-counts (suc n) fs = record { refused-counts = λ h. (refl, (refl, (refl, tt))); success-counts = λ e. absurd (omega arith) }

-- THE CALLS

blank_output_lem : (text output : List ℕ) → blank_output text output ≡ output_after (blank_number text output) (blanked text) output
unfolding blank_output
blank_output_lem text output = at (blank_number text output)
  where
    at : (n : ℕ) → elim n as (λ m. List ℕ) [ zero ↦ overwritten (blanked text) output | suc m ↦ output ] ≡ output_after n (blanked text) output
    at zero = refl
    at (suc n) = refl

pub blank_left : (text output : List ℕ) → BlankLeft text output (blank_call text output)
unfolding blank_call
blank_left text output =
    record {
      output-buffer = rw (answer-number (blank_number text output), blank_output_lem text output) (output-leaves (blank_number text output) (blanked text) output);
      counts = answer-counts (blank_number text output) (length text) 0;
    }

-- a buffer that is not too short for a text: work for the tree, and an output for its listing
long-enough : (text buffer : List ℕ) → (TooShort buffer text → ⊥) → length text ≤ length buffer
long-enough text buffer h = omega arith

pub scan_left : (tree work records' : List ℕ) → ScannedLeft tree work records' (scan_call gate tree work records')
unfolding scan_call
scan_left tree work records' =
    let number = scan_number gate tree work records' in
    record {
      scan_buffers =
          rw (answer-number number)
          (scan_leaves tree work records' (TooShort work tree) (long-enough tree work) [] [] tt number (scan_number_lem tree work records'));
      counts = answer-counts number 0 (length (functions_of gate tree));
    }

module _ (L : Limits) where
  pub check-left : (tree baseline work records' output : List ℕ) → CheckedLeft L tree baseline work records' output (check_call gate L tree baseline work records' output)
  unfolding check_call
  check-left tree baseline work records' output =
      let number = check_number gate L tree baseline work records' output in
      record {
        scan_buffers =
            rw (checked_number L number)
            (scan_leaves tree work records' (TooShort work tree) (long-enough tree work) (7 if LongBaseline baseline ∷ []) _ (omega arith) number
            (check-number L tree baseline work records' output));
        output-buffer = rw (checked_number L number) (output-leaves number (listing L (entries baseline) (functions_of gate tree)) output);
        counts = check-counts L number (entries baseline) (functions_of gate tree);
      }

  pub update-left : (tree work records' output : List ℕ) → UpdatedLeft L tree work records' output (update_call gate L tree work records' output)
  unfolding update_call
  update-left tree work records' output =
      let number = update_number gate L tree work records' output in
      record {
        scan_buffers =
            rw (updated_number L number)
            (scan_leaves tree work records' (TooShort work tree) (long-enough tree work) [] _ tt number (update-number L tree work records' output));
        output-buffer = rw (updated_number L number) (output-leaves number (baseline_text L (functions_of gate tree)) output);
        counts = update-counts L number (functions_of gate tree);
      }

  pub report-left : (tree work records' : List ℕ) (sums : List FileSum) (output : List ℕ) → ReportedLeft L tree work records' sums output (report_call gate L tree work records' sums output)
  unfolding report_call
  report-left tree work records' sums output =
      let number = report_number gate L tree work records' sums output in
      record {
        scan_buffers =
            rw (answer-number number)
            (scan_leaves tree work records' (TooShort work tree) (long-enough tree work) (6 if FewSums sums tree ∷ []) _ (omega arith) number
            (report-number L tree work records' sums output));
        sums-table = rw (answer-number number) (sums_leave tree sums number);
        output-buffer = rw (answer-number number) (output-leaves number (report_of gate L tree) output);
        counts = answer-counts number (length (report_of gate L tree)) (length (functions_of gate tree));
      }

-- THE EXPORTS

module _ (width : ℕ) (tree text put values work records' output counts : List ℕ) (between behind : List Row)
    (six-seven : All Early between) (number : ℕ)
    (f : First (tree_rows tree ++ (5 if FewCounts width work tree counts ∷ between) ++ (8 if ManyFunctions records' tree ∷ behind)) number)
    (same : number ≡ 0 → put ≡ values) where
  exported_leaves : ExportedLeft tree text values work records' output counts (exported_at gate number tree text put work records' output counts)
  unfolding exported_at
  exported_leaves =
      record {
        scan_buffers =
            scan_leaves tree work records' (FewCounts width work tree counts) (λ h. long-enough tree work (λ l. h (inl l))) between behind six-seven number f;
        output-buffer = output-leaves number text output;
        counts-buffer = output-leaves_as number _ _ counts (λ e. ap (λ vs. u32s_bytes vs) (same e));
      }

pub exported_blank_left : (text output : List ℕ) → OutputLeft (blanked text) output (exported_blank text output).number (exported_blank text output).output
unfolding exported_blank
exported_blank_left text output = rw (blank_output_lem text output) (output-leaves (blank_number text output) (blanked text) output)

pub exported_scan_left : (tree work records' counts : List ℕ)
    → ExportedLeft tree [] (length (functions_of gate tree) ∷ []) work records' [] counts (exported_scan gate tree work records' counts)
unfolding exported_scan exported_at
exported_scan_left tree work records' counts =
    exported_leaves 4 tree [] _ _ work records' [] counts [] [] tt _ (exported_scan_first tree work records' counts) (λ e. refl)

module _ (L : Limits) where
  check_values : (number : ℕ) (es : List Entry) (fs : List Fun) → number ≡ 0 → let a = check_answer L number es fs in
      ◌≡◌ {A = List ℕ} (a.written ∷ a.functions ∷ a.regressed ∷ a.stale ∷ []) (length (listing L es fs) ∷ length fs ∷ length (regressions L es fs) ∷ length (stale es fs) ∷ [])
  check_values number es fs e = (check-counts L number es fs).success-counts (checked_number L number es fs ∙ e)

  update_values : (number : ℕ) (fs : List Fun) → number ≡ 0 → let a = update_answer L number fs in
      ◌≡◌ {A = List ℕ} (a.written ∷ a.functions ∷ a.recorded ∷ []) (length (baseline_text L fs) ∷ length fs ∷ length (recorded L fs) ∷ [])
  update_values number fs e = (update-counts L number fs).success-counts (updated_number L number fs ∙ e)

  pub exported_check-left : (tree baseline work records' output counts : List ℕ)
      → let fs = functions_of gate tree in
      let es = entries baseline in
      ExportedLeft tree (listing L es fs) (length (listing L es fs) ∷ length fs ∷ length (regressions L es fs) ∷ length (stale es fs) ∷ []) work records' output counts
      (exported_check gate L tree baseline work records' output counts)
  unfolding exported_check exported_at
  exported_check-left tree baseline work records' output counts =
      exported_leaves 16 tree _ _ _ work records' output counts (7 if LongBaseline baseline ∷ []) _ (omega arith) _
      (exported_check-first L tree baseline work records' output counts) (check_values _ (entries baseline) (functions_of gate tree))

  pub exported_update-left : (tree work records' output counts : List ℕ)
      → let fs = functions_of gate tree in
      ExportedLeft tree (baseline_text L fs) (length (baseline_text L fs) ∷ length fs ∷ length (recorded L fs) ∷ []) work records' output counts
      (exported_update gate L tree work records' output counts)
  unfolding exported_update exported_at
  exported_update-left tree work records' output counts =
      exported_leaves 12 tree _ _ _ work records' output counts [] _ tt _
      (exported_update-first L tree work records' output counts) (update_values _ (functions_of gate tree))

  pub exported_report-left : (tree work records' output counts : List ℕ)
      → ExportedLeft tree (report_of gate L tree) (length (report_of gate L tree) ∷ length (functions_of gate tree) ∷ []) work records' output counts
      (exported_report gate L tree work records' output counts)
  unfolding exported_report exported_at
  exported_report-left tree work records' output counts =
      exported_leaves 8 tree _ _ _ work records' output counts [] _ tt _
      (exported_report-first L tree work records' output counts) (λ e. refl)

-- LENGTHS: no call changes that of a buffer

-- the numbers of the calls: those with which a tree is not scanned, and the others
scanned_or_not : (n : ℕ) → n ≤ 9 → ((1 ≤ n) × (n ≤ 7)) ⊎ ((n ≡ 0) ⊎ (n ≡ 8) ⊎ (n ≡ 9))
scanned_or_not n h =
    elim (whether (eqb n 0)) [
      | inl e ↦ inr (inl (eqb-true n 0 e))
      | inr e ↦ elim (whether (leb n 7)) [
        | inl k ↦ let m = eqb-false n 0 e in inl (omega arith, leb-true n 7 k)
        | inr k ↦ let m = leb-false n 7 k in elim (whether (eqb n 8)) [
          | inl q ↦ inr (inr (inl (eqb-true n 8 q)))
          | inr q ↦ let p = eqb-false n 8 q in inr (inr (inr (omega arith)))
        ]
      ]
    ]

-- as records and work are left, at a number from 0 to 9
scan_lengths : (tree work records' : List ℕ) (number : ℕ) → ScanLeft tree work records' number (work_after gate number tree work) (records_after gate number tree records') → number ≤ 9
    → (length (work_after gate number tree work) ≡ length work) × (length (records_after gate number tree records') ≡ length records')
unfolding records_after
scan_lengths tree work records' number left h =
    let there = records-length tree records' in
    ⊎_elim
    (λ r. (ap length (left.refused-work r.0 r.1), ap length (left.refused-records r.0 r.1)))
    (λ s. ((left.scanned_work s).same_length, at_scanned (λ n. length (records_after gate n tree records') ≡ length records') there there there number s))
    (scanned_or_not number h)

-- an output is written only where the text fits
output-length : (text output output' : List ℕ) (number : ℕ) → OutputLeft text output number output' → (number ≡ 0 → length text ≤ length output) → length output' ≡ length output
output-length text output output' zero left h = ap length (left.written-output refl) ∙ overwritten-length text output (h refl)
output-length text output output' (suc n) left h = ap length (left.refused-output (omega arith))

-- sums are written only where there is an entry for each file
sums_kept : (tree : List ℕ) (sums sums' : List FileSum) (number : ℕ) → SumsLeft tree sums number sums' → number ≤ 9 → ((number ≡ 0) ⊎ (number ≡ 9) → FewSums sums tree → ⊥)
    → length sums' ≡ length sums
sums_kept tree sums sums' number left h few =
    elim (whether (eqb number 0)) [
      | inl e ↦ written (inl (eqb-true number 0 e))
      | inr e ↦ elim (whether (eqb number 9)) [
        | inl k ↦ written (inr (eqb-true number 9 k))
        | inr k ↦ let m = eqb-false number 0 e in let p = eqb-false number 9 k in ap length (left.refused-sums (omega arith) (omega arith))
      ]
    ]
  where
    written : (number ≡ 0) ⊎ (number ≡ 9) → length sums' ≡ length sums
    written s =
        let enough : FewSums sums tree → ⊥ = few s in
        ap length (left.written-sums s).written ∙ simp (length-append, length-drop) (omega (arith, sums-count tree))

pub record SameLengths (work records output work' records' output' : List ℕ) : Type 0 where
  pub same-work : length work' ≡ length work
  pub same-records : length records' ≡ length records
  pub same-output : length output' ≡ length output

pub scan_keeps : (tree work records' : List ℕ) → let c = scan_call gate tree work records' in (length c.work ≡ length work) × (length c.records ≡ length records')
unfolding scan_call
scan_keeps tree work records' =
    let f = scan_number_lem tree work records' in
    scan_lengths tree work records' (scan_number gate tree work records')
    (scan_leaves tree work records' (TooShort work tree) (long-enough tree work) [] [] tt _ f)
    (at_most 9 _ (scan_table tree work records') (omega arith) f)

module _ (L : Limits) where
  pub check-keeps : (tree baseline work records' output : List ℕ)
      → let c = check_call gate L tree baseline work records' output in SameLengths work records' output c.work c.records c.output
  unfolding check_call
  check-keeps tree baseline work records' output =
      let f = check-number L tree baseline work records' output in
      let (w, r) = scan_lengths tree work records' (check_number gate L tree baseline work records' output)
      (scan_leaves tree work records' (TooShort work tree) (long-enough tree work) (7 if LongBaseline baseline ∷ []) _ (omega arith) _ f)
      (at_most 9 _ (check_table L tree baseline work records' output) (omega arith) f) in
      record {
        same-work = w;
        same-records = r;
        same-output = output-length _ output _ _ (output-leaves _ _ output)
            (λ z. long-enough (listing L (entries baseline) (functions_of gate tree)) output ((exactly_zero _ (check_different L tree baseline work records' output) _ f).0 z).1.1.1.1.1.1.1.0);
      }

  pub update-keeps : (tree work records' output : List ℕ)
      → let u = update_call gate L tree work records' output in SameLengths work records' output u.work u.records u.output
  unfolding update_call
  update-keeps tree work records' output =
      let f = update-number L tree work records' output in
      let (w, r) = scan_lengths tree work records' (update_number gate L tree work records' output)
      (scan_leaves tree work records' (TooShort work tree) (long-enough tree work) [] _ tt _ f)
      (at_most 9 _ (update_table L tree work records' output) (omega arith) f) in
      record {
        same-work = w;
        same-records = r;
        same-output = output-length _ output _ _ (output-leaves _ _ output)
            (λ z. long-enough (baseline_text L (functions_of gate tree)) output ((exactly_zero _ (update_different L tree work records' output) _ f).0 z).1.1.1.1.1.1.0);
      }

  pub report-keeps : (tree work records' : List ℕ) (sums : List FileSum) (output : List ℕ)
      → let r = report_call gate L tree work records' sums output in SameLengths work records' output r.work r.records r.output × (length r.sums ≡ length sums)
  unfolding report_call
  report-keeps tree work records' sums output =
      let f = report-number L tree work records' sums output in
      let (w, r) = scan_lengths tree work records' (report_number gate L tree work records' sums output)
      (scan_leaves tree work records' (TooShort work tree) (long-enough tree work) (6 if FewSums sums tree ∷ []) _ (omega arith) _ f)
      (at_most 9 _ (report_table L tree work records' sums output) (omega arith) f) in (
        record {
          same-work = w;
          same-records = r;
          same-output = output-length _ output _ _ (output-leaves _ _ output)
              (λ z. long-enough (report_of gate L tree) output ((exactly_zero _ (report_different L tree work records' sums output) _ f).0 z).1.1.1.1.1.1.1.0);
        },
        sums_kept tree sums _ _ (sums_leave tree sums _) (at_most 9 _ (report_table L tree work records' sums output) (omega arith) f)
            (λ s. (before-eight tree work records' (TooShort work tree) (long-enough tree work) (6 if FewSums sums tree ∷ []) _ (omega arith) _ f (with_eight s)).1.1.1.1.1.0),
      )
