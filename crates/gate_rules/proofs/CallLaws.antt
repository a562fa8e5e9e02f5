-- What the answers of the calls tell.
use Rattle.std.specs.Prelude.{ℕ, zero, suc, ◌*◌, ◌≤◌, ◌<◌, ◌≡◌, refl, true, false, ◌&&◌, List, [], ◌∷◌, eqb}
use Rattle.std.proofs.Common.{inl, ◌∙◌, arith}
use Rattle.std.proofs.Math.Path.{sym}
use Rattle.std.proofs.Math.Dec.{ltb}
use Rattle.std.proofs.Math.ListN.{length}
use Rattle.std.proofs.Math.Seq.{take-append_seam}
use borrow.Author.Tests.{ltb-false, le-ltb, eqb-true}
use Rattle.text_rules.specs.Bytes.{All, ◌when◌}
use Rattle.text_rules.specs.BytesLaws.{and_left, or_else-first, or_else-rest, when-fails}
use Rattle.text_rules.specs.Sizes.{max_baseline, record_width}
use Rattle.gate_rules.specs.Baseline.{Entry, entries}
use Rattle.gate_rules.specs.Calls.{check_answer, check_call, check_number, room, scan_number, update_call, update_number}
use Rattle.gate_rules.specs.Check.{listing, regressions}
use Rattle.gate_rules.specs.Functions.{Fun, Limits}
use Rattle.gate_rules.specs.Gate.{gate}
use Rattle.gate_rules.specs.History.{bytes_written, passed}
use Rattle.gate_rules.specs.Report.{FileSum}
use Rattle.gate_rules.specs.ReportCall.{report_number}
use Rattle.gate_rules.specs.Scan.{Accepted, Scan, functions_of}
use Rattle.gate_rules.specs.Table.{Fails, ManyFunctions, ◌if◌, tree_rows}
use Rattle.gate_rules.proofs.TableLaws.{accepted_spelled, checked_number, exactly_zero, report_different, report-number, scan_different, scan_number_lem, updated_number}
use Rattle.gate_rules.specs.Update.{baseline_text}

-- a call whose number is 0, so that none of the tests passes: the tree is accepted
accepted-at : (S : Scan) (tree records : List ℕ) → S.refusal tree ≡ 0 → ltb (room records) (length (functions_of S tree)) ≡ false → Accepted S tree
accepted-at S tree records r e = record { unrefused = r; few = omega (arith, ltb-false (room records) (length (functions_of S tree)) e) }

module _ (S : Scan) (L : Limits) where
  pub checked_accepted : (tree baseline work records output : List ℕ) → check_number S L tree baseline work records output ≡ 0 → Accepted S tree × (length baseline ≤ 33554432)
  unfolding check_number
  checked_accepted tree baseline work records output z =
      let rest = or_else-rest (5 when ltb (length work) (length tree)) _ (or_else-rest (S.refusal tree) _ z) in
      let last = or_else-rest (7 when ltb max_baseline (length baseline)) _ rest in (
        accepted-at S tree records (or_else-first (S.refusal tree) _ z) (when-fails 7 _ (or_else-first _ _ last)),
        ltb-false max_baseline (length baseline) (when-fails 6 _ (or_else-first _ _ rest)),
      )

  pub updating_accepted : (tree work records output : List ℕ) → update_number S L tree work records output ≡ 0 → Accepted S tree
  unfolding update_number
  updating_accepted tree work records output z =
      let rest = or_else-rest (5 when ltb (length work) (length tree)) _ (or_else-rest (S.refusal tree) _ z) in
      accepted-at S tree records (or_else-first (S.refusal tree) _ z) (when-fails 7 _ (or_else-first _ _ rest))

-- the gate's scan and report, by their tables
accepted-by : (tree records : List ℕ) → All Fails (tree_rows tree) → Fails (8 if ManyFunctions records tree) → Accepted gate tree
accepted-by tree records h k =
    let few : 8192 < length (functions_of gate tree) → ⊥ = λ l. k (inl l) in
    (accepted_spelled tree).1 (h, omega arith)

pub scanned_accepted : (tree work records : List ℕ) → scan_number gate tree work records ≡ 0 → Accepted gate tree
scanned_accepted tree work records z =
    let h = (exactly_zero _ (scan_different tree work records) _ (scan_number_lem tree work records)).0 z in
    accepted-by tree records (h.0, (h.1.0, (h.1.1.0, (h.1.1.1.0, tt)))) h.1.1.1.1.1.0

pub reported-accepted : (L : Limits) (tree work records : List ℕ) (sums : List FileSum) (output : List ℕ) → report_number gate L tree work records sums output ≡ 0 → Accepted gate tree
reported-accepted L tree work records sums output z =
    let h = (exactly_zero _ (report_different L tree work records sums output) _ (report-number L tree work records sums output)).0 z in
    accepted-by tree records (h.0, (h.1.0, (h.1.1.0, (h.1.1.1.0, tt)))) h.1.1.1.1.1.1.0

length_zero : {A : Type 0} (l : List A) → length l ≡ 0 → l ≡ []
length_zero [] e = refl
length_zero (x ∷ l) e = let z : ⊥ = omega arith in absurd z

none-regressed : (L : Limits) (n : ℕ) (es : List Entry) (fs : List Fun) → (let a = check_answer L n es fs in eqb a.number 0 && eqb a.regressed 0) ≡ true → regressions L es fs ≡ []
none-regressed L zero es fs e = length_zero (regressions L es fs) (eqb-true (length (regressions L es fs)) 0 e)
none-regressed L (suc n) es fs e = let z : suc n ≡ 0 = eqb-true (suc n) 0 (and_left _ _ e) in absurd (omega arith)

module _ (S : Scan) (L : Limits) where
  -- a tree of which update succeeds is accepted
  pub updated_accepted : (tree work records output : List ℕ) → (update_call S L tree work records output).answer.number ≡ 0 → Accepted S tree
  unfolding update_call
  updated_accepted tree work records output e = updating_accepted S L tree work records output (sym (updated_number L _ _) ∙ e)

  -- update succeeds on every accepted tree, unless a lent buffer is too short
  pub update-succeeds : (tree work records output : List ℕ) → Accepted S tree → length tree ≤ length work → record_width * length (functions_of S tree) ≤ length records
      → length (baseline_text L (functions_of S tree)) ≤ length output → (update_call S L tree work records output).answer.number ≡ 0
  unfolding update_call update_number
  update-succeeds tree work records output a w r o =
      let enough : length (functions_of S tree) ≤ room records = omega (arith, a.few) in
      rw (
        a.unrefused,
        le-ltb (length work) (length tree) w,
        le-ltb (room records) (length (functions_of S tree)) enough,
        le-ltb (length output) (length (baseline_text L (functions_of S tree))) o,
      )

  -- and so does check
  pub check_zero : (tree baseline work records output : List ℕ) → Accepted S tree → length baseline ≤ max_baseline → length tree ≤ length work
      → record_width * length (functions_of S tree) ≤ length records → length (listing L (entries baseline) (functions_of S tree)) ≤ length output
      → check_number S L tree baseline work records output ≡ 0
  unfolding check_number
  check_zero tree baseline work records output a b w r o =
      rw (
        a.unrefused,
        le-ltb (length work) (length tree) w,
        le-ltb max_baseline (length baseline) b,
        le-ltb (room records) (length (functions_of S tree)) (omega (arith, a.few)),
        le-ltb (length output) (length (listing L (entries baseline) (functions_of S tree))) o,
      )

  pub check-succeeds : (tree baseline work records output : List ℕ) → Accepted S tree → length baseline ≤ max_baseline → length tree ≤ length work
      → record_width * length (functions_of S tree) ≤ length records → length (listing L (entries baseline) (functions_of S tree)) ≤ length output
      → (check_call S L tree baseline work records output).answer.number ≡ 0
  unfolding check_call
  check-succeeds tree baseline work records output a b w r o = checked_number L _ _ _ ∙ check_zero tree baseline work records output a b w r o

  -- what a successful update writes
  pub updated_writes : (tree work records output : List ℕ) → (update_call S L tree work records output).answer.number ≡ 0 → bytes_written (update_call S L tree work records output) ≡ baseline_text L (functions_of S tree)
  unfolding update_call
  updated_writes tree work records output e =
      let z : update_number S L tree work records output ≡ 0 = sym (updated_number L _ _) ∙ e in
      rw z (take-append_seam (baseline_text L (functions_of S tree)) _)

  -- a tree that passes is accepted
  pub passed-accepted : (tree baseline work records output : List ℕ) → passed (check_call S L tree baseline work records output) ≡ true → Accepted S tree
  unfolding check_call
  passed-accepted tree baseline work records output e =
      let z : check_number S L tree baseline work records output ≡ 0 = sym (checked_number L _ _ _) ∙ eqb-true _ _ (and_left _ _ e) in
      (checked_accepted S L tree baseline work records output z).0

  -- and has no regression
  pub passed-clean : (tree baseline work records output : List ℕ) → passed (check_call S L tree baseline work records output) ≡ true → regressions L (entries baseline) (functions_of S tree) ≡ []
  unfolding check_call
  passed-clean tree baseline work records output e = none-regressed L (check_number S L tree baseline work records output) (entries baseline) (functions_of S tree) e
