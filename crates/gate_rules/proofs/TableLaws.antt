-- Every call answers as its table says: the number is that of the first row whose condition holds, and 0 where none does, for every input.
-- So each number is returned exactly when its own condition holds and those of the rows before it fail, and a call succeeds whenever the
-- tree is accepted and the lent buffers suffice (check and update: CallLaws, for any scan).
use Rattle.std.specs.Prelude.{ℕ, zero, suc, ◌*◌, ◌≤◌, ◌<◌, ◌≡◌, refl, Bool, true, false, ◌⊎◌, ◌≢◌, ◌↔◌, List, [], ◌∷◌, ◌++◌, ltb, length}
use Rattle.std.proofs.Common.{sym, ◌∙◌, inl, inr, ⊎_elim, arith}
use Rattle.std.proofs.lemmas.List.{length-map, length-replicate}
use Rattle.std.proofs.lemmas.Bool.{not-false}
use Rattle.text_rules.specs.Answer.{answer_at}
use Rattle.text_rules.specs.Bytes.{All, ◌or_else◌, ◌when◌}
use Rattle.text_rules.proofs.ScanLaws.{or_else-some}
use Rattle.source_rules.specs.BlankCall.{blank_call, blank_number}
use Rattle.gate_rules.specs.Baseline.{Entry, entries}
use Rattle.gate_rules.specs.Calls.{check_answer, check_call, check_number, room, scan_call, scan_number, update_answer, update_call, update_number}
use Rattle.gate_rules.specs.Check.{listing}
use Rattle.gate_rules.proofs.ConditionLaws.{Decides, files-count, layout_spelled, less-decides, not_decides, paths_spelled, room-decides, texts_spelled}
use Rattle.gate_rules.specs.Exports.{export_number, exported_at, exported_blank, exported_check, exported_report, exported_scan, exported_update}
use Rattle.gate_rules.specs.Functions.{Fun, Limits}
use Rattle.gate_rules.specs.Gate.{file_of, gate}
use Rattle.gate_rules.specs.Report.{FileSum, empty_sums, no_sum}
use Rattle.gate_rules.specs.ReportCall.{report_call, report_number, report_of}
use Rattle.gate_rules.specs.Scan.{Accepted, functions_of}
use Rattle.gate_rules.specs.Table.{BadPath, BadText, Different, Fails, FewCounts, FewSums, First, ManyFunctions, Row, TooLong, TooShort, Unlaid, ◌if◌, blank_table, check_table, exported_check_table, exported_report_table, exported_scan_table, exported_update_table, report_table, scan_table, tree_rows, update_table}
use Rattle.gate_rules.specs.Tree.{sources, tree_refusal}
use Rattle.gate_rules.specs.Update.{baseline_text}

-- ANY TABLE

-- a number that no row has
other : (rs : List Row) (m n : ℕ) → m ≢ 0 → All (λ q. q.number ≢ m) rs → First rs n → n ≢ m
unfolding First
other [] m n z d f e = z (sym e ∙ f)
other (r ∷ rs) m n z d (inl (h, k)) e = d.0 (sym k ∙ e)
other (r ∷ rs) m n z d (inr (h, f)) e = other rs m n z d.1 f e

in_middle : (P : Row → Type 0) (before : List Row) (r : Row) (after : List Row) → All P (before ++ r ∷ after) → P r
in_middle P [] r after h = h.0
in_middle P (q ∷ before) r after h = in_middle P before r after h.1

exactly-at : (before : List Row) (r : Row) (after : List Row) (n : ℕ) → Different (before ++ r ∷ after) → First (before ++ r ∷ after) n → (n ≡ r.number) ↔ (r.holds × All Fails before)
unfolding First Different
exactly-at [] r after n d (inl (h, e)) = (λ k. (h, tt), λ k. e)
exactly-at [] r after n d (inr (h, f)) = (λ k. absurd (other after r.number n d.0 d.1 f k), λ k. absurd (h k.0))
exactly-at (q ∷ before) r after n d (inl (h, e)) = (λ k. absurd (in_middle (λ p. p.number ≢ q.number) before r after d.1 (sym k ∙ e)), λ k. absurd (k.1.0 h))
exactly-at (q ∷ before) r after n d (inr (h, f)) = let (to, from) = exactly-at before r after n d.2 f in (λ k. ((to k).0, (h, (to k).1)), λ k. from (k.0, k.1.1))

-- a row's number is returned exactly where its condition holds and those of the rows before it fail
pub exactly : (rows : List Row) → Different rows → (n : ℕ) → First rows n → (before : List Row) (r : Row) (after : List Row) → rows ≡ before ++ r ∷ after
    → (n ≡ r.number) ↔ (r.holds × All Fails before)
exactly rows d n f before r after e = exactly-at before r after n (rw e at d) (rw e at f)

-- and 0 exactly where every condition fails
pub exactly_zero : (rows : List Row) → Different rows → (n : ℕ) → First rows n → (n ≡ 0) ↔ All Fails rows
unfolding First Different
exactly_zero [] d n f = (λ e. tt, λ h. f)
exactly_zero (r ∷ rs) d n (inl (h, e)) = (λ z. absurd (d.0 (sym e ∙ z)), λ k. absurd (k.0 h))
exactly_zero (r ∷ rs) d n (inr (h, f)) = let (to, from) = exactly_zero rs d.2 n f in (λ z. (h, to z), λ k. from k.1)

-- a table has one answer
pub first_unique : (rows : List Row) (m n : ℕ) → First rows m → First rows n → m ≡ n
unfolding First
first_unique [] m n f g = f ∙ sym g
first_unique (r ∷ rs) m n (inl (h, e)) (inl (k, q)) = e ∙ sym q
first_unique (r ∷ rs) m n (inl (h, e)) (inr (k, g)) = absurd (k h)
first_unique (r ∷ rs) m n (inr (h, f)) (inl (k, q)) = absurd (h k)
first_unique (r ∷ rs) m n (inr (h, f)) (inr (k, g)) = first_unique rs m n f g

-- numbers that rise are different
abbrev Climbing : ℕ → List Row → Type 0
Climbing m [] = Unit {0}
Climbing m (r ∷ rs) = (m < r.number) × Climbing r.number rs

all_above : (m k : ℕ) (rs : List Row) → m ≤ k → Climbing k rs → All (λ q. q.number ≢ m) rs
all_above m k [] l c = tt
all_above m k (r ∷ rs) l c = (λ e. omega (arith, c.0), all_above m r.number rs (omega (arith, c.0)) c.1)

climbing_different : (m : ℕ) (rs : List Row) → Climbing m rs → Different rs
unfolding Different
climbing_different m [] c = tt
climbing_different m (r ∷ rs) c = (λ e. omega (arith, c.0), all_above r.number r.number rs (omega arith) c.1, climbing_different r.number rs c.1)

-- no row's number is over a bound
pub at_most : (m n : ℕ) (rows : List Row) → All (λ r. r.number ≤ m) rows → First rows n → n ≤ m
unfolding First
at_most m n [] h f = omega arith
at_most m n (r ∷ rs) h (inl (k, e)) = omega (arith, h.0)
at_most m n (r ∷ rs) h (inr (k, f)) = at_most m n rs h.1 f

-- a call's expression of refusals, one after another: a test that decides the row's condition
row-then : {P : Type 0} (k : ℕ) (b : Bool) → Decides b P → (rs : List Row) (m : ℕ) → (b ≡ false → First rs m) → First (suc k if P ∷ rs) (suc k when b or_else m)
unfolding First
row-then k true d rs m f = inl (d.holds refl, refl)
row-then k false d rs m f = inr (d.fails refl, f refl)

row_last : {P : Type 0} (k : ℕ) (b : Bool) → Decides b P → First (suc k if P ∷ []) (suc k when b)
unfolding First
row_last k true d = inl (d.holds refl, refl)
row_last k false d = inr (d.fails refl, refl)

-- and a first part of the table
some-refusal : (m k : ℕ) → m ≡ k → k ≢ 0 → 0 < m
some-refusal zero k e z = absurd (z (sym e))
some-refusal (suc m) k e z = omega arith

part_then : (rs qs : List Row) (m n : ℕ) → Different rs → First rs m → (All Fails rs → First qs n) → First (rs ++ qs) (m or_else n)
unfolding First Different
part_then [] qs m n d f g = rw f (g tt)
part_then (r ∷ rs) qs m n d (inl (h, e)) g = inl (h, or_else-some m n (some-refusal m r.number e d.0) ∙ e)
part_then (r ∷ rs) qs m n d (inr (h, f)) g = inr (h, part_then rs qs m n d.2 f (λ k. g (h, k)))

-- what remains of a table behind rows that fail
pub part-fails : (rs qs : List Row) (n : ℕ) → All Fails rs → First (rs ++ qs) n → First qs n
unfolding First
part-fails [] qs n k f = f
part-fails (r ∷ rs) qs n k (inl (h, e)) = absurd (k.0 h)
part-fails (r ∷ rs) qs n k (inr (h, f)) = part-fails rs qs n k.1 f

-- rows fail before a number that is none of theirs
pub past : (rs qs : List Row) (n : ℕ) → All (λ r. n ≢ r.number) rs → First (rs ++ qs) n → All Fails rs
unfolding First
past [] qs n d f = tt
past (r ∷ rs) qs n d (inl (h, e)) = absurd (d.0 e)
past (r ∷ rs) qs n d (inr (h, f)) = (h, past rs qs n d.1 f)

-- THE TREE'S ROWS

pub tree-first : (tree : List ℕ) → First (tree_rows tree) (tree_refusal tree)
unfolding tree_refusal
tree-first tree =
    row-then 0 _ (less-decides 16777216 (length tree)) _ _
    (λ e₁. row-then 1 _ (not_decides _ _ (layout_spelled tree)) _ _
    (λ e₂. row-then 2 _ (not_decides _ _ (paths_spelled tree ((layout_spelled tree).0 (not-false _ e₂)))) _ _
    (λ e₃. row_last 3 _ (not_decides _ _ (texts_spelled (sources tree))))))

pub tree_different : (tree : List ℕ) → Different (tree_rows tree)
tree_different tree = climbing_different 0 _ (omega arith)

after-tree : (tree : List ℕ) (qs : List Row) (n : ℕ) → (All Fails (tree_rows tree) → First qs n) → First (tree_rows tree ++ qs) (tree_refusal tree or_else n)
after-tree tree qs n f = part_then (tree_rows tree) qs (tree_refusal tree) n (tree_different tree) (tree-first tree) f

-- THE CALLS' NUMBERS

-- the last two rows
last-rows : (tree records text output : List ℕ)
    → First (8 if ManyFunctions records tree ∷ 9 if TooShort output text ∷ [])
    (8 when ltb (room records) (length (functions_of gate tree)) or_else 9 when ltb (length output) (length text))
last-rows tree records text output = row-then 7 _ (room-decides records (length (functions_of gate tree))) _ _ (λ e. row_last 8 _ (less-decides (length output) (length text)))

-- a table of sums has an entry for each file
sums_decide : (sums : List FileSum) (tree : List ℕ) → Decides (ltb (length sums) (length (gate.files tree))) (FewSums sums tree)
unfolding gate
sums_decide sums tree = let e : length (gate.files tree) ≡ length (sources tree) = length-map (sources tree) file_of in rw e (less-decides (length sums) (length (sources tree)))

pub blank_number_lem : (text output : List ℕ) → First (blank_table text output) (blank_number text output)
unfolding blank_number
blank_number_lem text output = row-then 0 _ (less-decides 16777216 (length text)) _ _ (λ e. row_last 4 _ (less-decides (length output) (length text)))

pub scan_number_lem : (tree work records : List ℕ) → First (scan_table tree work records) (scan_number gate tree work records)
unfolding scan_number gate
scan_number_lem tree work records =
    after-tree tree _ _
    (λ h. row-then 4 _ (less-decides (length work) (length tree)) _ _
    (λ e. row_last 7 _ (room-decides records (length (functions_of gate tree)))))

module _ (L : Limits) where
  pub check-number : (tree baseline work records output : List ℕ) → First (check_table L tree baseline work records output) (check_number gate L tree baseline work records output)
  unfolding check_number gate
  check-number tree baseline work records output =
      after-tree tree _ _
      (λ h. row-then 4 _ (less-decides (length work) (length tree)) _ _
      (λ e. row-then 6 _ (less-decides 33554432 (length baseline)) _ _
      (λ k. last-rows tree records (listing L (entries baseline) (functions_of gate tree)) output)))

  pub update-number : (tree work records output : List ℕ) → First (update_table L tree work records output) (update_number gate L tree work records output)
  unfolding update_number gate
  update-number tree work records output =
      after-tree tree _ _
      (λ h. row-then 4 _ (less-decides (length work) (length tree)) _ _
      (λ e. last-rows tree records (baseline_text L (functions_of gate tree)) output))

  pub report-number : (tree work records : List ℕ) (sums : List FileSum) (output : List ℕ) → First (report_table L tree work records sums output) (report_number gate L tree work records sums output)
  unfolding report_number gate
  report-number tree work records sums output =
      after-tree tree _ _
      (λ h. row-then 4 _ (less-decides (length work) (length tree)) _ _
      (λ e. row-then 5 _ (sums_decide sums tree) _ _
      (λ k. last-rows tree records (report_of gate L tree) output)))

-- THE CALLS

-- an answer's number is the call's
pub answer-number : (n written functions : ℕ) → (answer_at n written functions).number ≡ n
answer-number zero written functions = refl
answer-number (suc n) written functions = refl

module _ (L : Limits) where
  pub updated_number : (n : ℕ) (fs : List Fun) → (update_answer L n fs).number ≡ n
  updated_number zero fs = refl
  updated_number (suc n) fs = refl

  pub checked_number : (n : ℕ) (es : List Entry) (fs : List Fun) → (check_answer L n es fs).number ≡ n
  checked_number zero es fs = refl
  checked_number (suc n) es fs = refl

pub blank_first : (text output : List ℕ) → First (blank_table text output) (blank_call text output).answer.number
unfolding blank_call
blank_first text output = rw (answer-number (blank_number text output)) (blank_number_lem text output)

pub scan_first : (tree work records : List ℕ) → First (scan_table tree work records) (scan_call gate tree work records).answer.number
unfolding scan_call
scan_first tree work records = rw (answer-number (scan_number gate tree work records)) (scan_number_lem tree work records)

module _ (L : Limits) where
  pub check-first : (tree baseline work records output : List ℕ) → First (check_table L tree baseline work records output) (check_call gate L tree baseline work records output).answer.number
  unfolding check_call
  check-first tree baseline work records output = rw (checked_number L (check_number gate L tree baseline work records output)) (check-number L tree baseline work records output)

  pub update-first : (tree work records output : List ℕ) → First (update_table L tree work records output) (update_call gate L tree work records output).answer.number
  unfolding update_call
  update-first tree work records output = rw (updated_number L (update_number gate L tree work records output)) (update-number L tree work records output)

  pub report-first : (tree work records : List ℕ) (sums : List FileSum) (output : List ℕ) → First (report_table L tree work records sums output) (report_call gate L tree work records sums output).answer.number
  unfolding report_call
  report-first tree work records sums output = rw (answer-number (report_number gate L tree work records sums output)) (report-number L tree work records sums output)

-- THE EXPORTS

-- 5 is also returned for too few bytes of counts
widened : (P : Type 0) {Q : Type 0} (b : Bool) → Decides b Q → (rs : List Row) (n : ℕ) → First (5 if P ∷ rs) n → First (5 if (P ⊎ Q) ∷ rs) (5 when b or_else n)
unfolding First
widened P true d rs n f = inl (inr (d.holds refl), refl)
widened P false d rs n (inl (p, e)) = inl (inl p, e)
widened P false d rs n (inr (h, f)) = inr (λ k. ⊎_elim h (d.fails refl) k, f)

export_first : (width : ℕ) (tree work counts : List ℕ) (rest : List Row) (n : ℕ) → First (tree_rows tree ++ (5 if TooShort work tree ∷ rest)) n
    → First (tree_rows tree ++ (5 if FewCounts width work tree counts ∷ rest)) (export_number gate width tree counts n)
unfolding export_number gate
export_first width tree work counts rest n f =
    after-tree tree _ _ (λ h. widened (TooShort work tree) _ (less-decides (length counts) width) rest n (part-fails (tree_rows tree) _ n h f))

-- a row that cannot hold
without : (r q : Row) (rs : List Row) (n : ℕ) → Fails q → First (r ∷ q ∷ rs) n → First (r ∷ rs) n
unfolding First
without r q rs n k (inl (h, e)) = inl (h, e)
without r q rs n k (inr (h, inl (p, e))) = absurd (k p)
without r q rs n k (inr (h, inr (p, f))) = inr (h, f)

rest_changed : (rs ps qs : List Row) (n : ℕ) → (All Fails rs → First ps n → First qs n) → First (rs ++ ps) n → First (rs ++ qs) n
unfolding First
rest_changed [] ps qs n g f = g tt f
rest_changed (r ∷ rs) ps qs n g (inl (h, e)) = inl (h, e)
rest_changed (r ∷ rs) ps qs n g (inr (h, f)) = inr (h, rest_changed rs ps qs n (λ k. g (h, k)) f)

-- the export's own table of sums has an entry for each file of a laid-out tree
own_suffices : (tree : List ℕ) → All Fails (tree_rows tree) → FewSums empty_sums tree → ⊥
own_suffices tree h few =
    let size : length empty_sums ≡ 1024 = length-replicate 1024 no_sum in
    h.1.0 (λ l. omega (arith, files-count tree, l.count_small))

module _ (L : Limits) where
  -- 6 does not apply where the table of sums has an entry for each file
  report-without_six : (tree work records : List ℕ) (sums : List FileSum) (output : List ℕ) → (All Fails (tree_rows tree) → FewSums sums tree → ⊥)
      → First (tree_rows tree ++ (5 if TooShort work tree ∷ 8 if ManyFunctions records tree ∷ 9 if TooShort output (report_of gate L tree) ∷ []))
      (report_number gate L tree work records sums output)
  report-without_six tree work records sums output few =
      rest_changed (tree_rows tree) _ _ _ (λ h. without _ _ _ _ (few h)) (report-number L tree work records sums output)

  -- and report's number does not depend on the table
  pub report_any_sums : (tree work records : List ℕ) (sums : List FileSum) (output : List ℕ) → length (sources tree) ≤ length sums
      → report_number gate L tree work records empty_sums output ≡ report_number gate L tree work records sums output
  report_any_sums tree work records sums output enough =
      first_unique _ _ _
      (report-without_six tree work records empty_sums output (own_suffices tree))
      (report-without_six tree work records sums output (λ h few. omega arith))

pub exported_blank_first : (text output : List ℕ) → First (blank_table text output) (exported_blank text output).number
unfolding exported_blank
exported_blank_first text output = blank_number_lem text output

pub exported_scan_first : (tree work records counts : List ℕ) → First (exported_scan_table tree work records counts) (exported_scan gate tree work records counts).number
unfolding exported_scan exported_at
exported_scan_first tree work records counts = export_first 4 tree work counts _ _ (scan_number_lem tree work records)

module _ (L : Limits) where
  pub exported_check-first : (tree baseline work records output counts : List ℕ)
      → First (exported_check_table L tree baseline work records output counts) (exported_check gate L tree baseline work records output counts).number
  unfolding exported_check exported_at
  exported_check-first tree baseline work records output counts = export_first 16 tree work counts _ _ (check-number L tree baseline work records output)

  pub exported_update-first : (tree work records output counts : List ℕ)
      → First (exported_update_table L tree work records output counts) (exported_update gate L tree work records output counts).number
  unfolding exported_update exported_at
  exported_update-first tree work records output counts = export_first 12 tree work counts _ _ (update-number L tree work records output)

  pub exported_report-first : (tree work records output counts : List ℕ)
      → First (exported_report_table L tree work records output counts) (exported_report gate L tree work records output counts).number
  unfolding exported_report exported_at
  exported_report-first tree work records output counts =
      export_first 8 tree work counts _ _ (report-without_six L tree work records empty_sums output (own_suffices tree))

-- THE NUMBERS OF EVERY TABLE ARE DIFFERENT

pub blank_different : (text output : List ℕ) → Different (blank_table text output)
blank_different text output = climbing_different 0 _ (omega arith)

pub scan_different : (tree work records : List ℕ) → Different (scan_table tree work records)
scan_different tree work records = climbing_different 0 _ (omega arith)

module _ (L : Limits) where
  pub check_different : (tree baseline work records output : List ℕ) → Different (check_table L tree baseline work records output)
  check_different tree baseline work records output = climbing_different 0 _ (omega arith)

  pub update_different : (tree work records output : List ℕ) → Different (update_table L tree work records output)
  update_different tree work records output = climbing_different 0 _ (omega arith)

  pub report_different : (tree work records : List ℕ) (sums : List FileSum) (output : List ℕ) → Different (report_table L tree work records sums output)
  report_different tree work records sums output = climbing_different 0 _ (omega arith)

  pub exported_check_different : (tree baseline work records output counts : List ℕ) → Different (exported_check_table L tree baseline work records output counts)
  exported_check_different tree baseline work records output counts = climbing_different 0 _ (omega arith)

  pub exported_update_different : (tree work records output counts : List ℕ) → Different (exported_update_table L tree work records output counts)
  exported_update_different tree work records output counts = climbing_different 0 _ (omega arith)

  pub exported_report_different : (tree work records output counts : List ℕ) → Different (exported_report_table L tree work records output counts)
  exported_report_different tree work records output counts = climbing_different 0 _ (omega arith)

pub exported_scan_different : (tree work records counts : List ℕ) → Different (exported_scan_table tree work records counts)
exported_scan_different tree work records counts = climbing_different 0 _ (omega arith)

-- SUCCESS

-- an accepted tree: no row of a tree's own holds, and at most 8,192 functions
pub accepted_spelled : (tree : List ℕ) → Accepted gate tree ↔ (All Fails (tree_rows tree) × (length (functions_of gate tree) ≤ 8192))
unfolding gate
accepted_spelled tree =
    let (to, from) = exactly_zero (tree_rows tree) (tree_different tree) (tree_refusal tree) (tree-first tree) in
    (λ a. (to a.unrefused, a.few), λ h. record { unrefused = from h.0; few = h.1 })

-- the tree's rows, before the others
with_rest : {R : Type 0} (tree : List ℕ) → All Fails (tree_rows tree) → R → (TooLong tree → ⊥) × ((Unlaid tree → ⊥) × ((BadPath tree → ⊥) × ((BadText tree → ⊥) × R)))
with_rest tree h rest = (h.0, (h.1.0, (h.1.1.0, (h.1.1.1.0, rest))))

enough : (records tree : List ℕ) → length (functions_of gate tree) ≤ 8192 → 32 * length (functions_of gate tree) ≤ length records → ManyFunctions records tree → ⊥
enough records tree few r (inl h) = omega arith
enough records tree few r (inr h) = omega arith

pub blank_succeeds : (text output : List ℕ) → length text ≤ 16777216 → length text ≤ length output → (blank_call text output).answer.number ≡ 0
blank_succeeds text output short o = (exactly_zero _ (blank_different text output) _ (blank_first text output)).1 (omega arith)

module _ (tree work records : List ℕ) (a : Accepted gate tree) (w : length tree ≤ length work) (r : 32 * length (functions_of gate tree) ≤ length records) where
  pub scan_succeeds : (scan_call gate tree work records).answer.number ≡ 0
  scan_succeeds =
      let (h, few) = (accepted_spelled tree).0 a in
      (exactly_zero _ (scan_different tree work records) _ (scan_first tree work records)).1
      (with_rest tree h (omega arith, (enough records tree few r, tt)))

  module _ (L : Limits) where
    pub report-succeeds : (sums : List FileSum) (output : List ℕ) → length (sources tree) ≤ length sums → length (report_of gate L tree) ≤ length output
        → (report_call gate L tree work records sums output).answer.number ≡ 0
    report-succeeds sums output s o =
        let (h, few) = (accepted_spelled tree).0 a in
        (exactly_zero _ (report_different L tree work records sums output) _ (report-first L tree work records sums output)).1
        (with_rest tree h (omega arith, (omega arith, (enough records tree few r, (omega arith, tt)))))
