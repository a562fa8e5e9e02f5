-- The proof of the second half of demand 3.
use Rattle.std.specs.Prelude.{ℕ, suc, ◌+◌, ◌*◌, ◌≤◌, ◌≡◌, ◌⊎◌, true}
use Rattle.std.proofs.Math.Path.{refl, ap, sym}
use Rattle.std.proofs.Common.{◌∙◌, inl, inr}
use mathlib.Core.List.Memᴰ
use mathlib.Core.List.{List, [], ◌∷◌, ◌++◌, map}
use Rattle.std.proofs.Math.Option.{Option, none, some}
use native.Mathlib.Omega.{arith}
use Rattle.std.proofs.Math.Dec.{lit≤, ltb}
use Rattle.std.proofs.Math.ListN.{length, length-append}
use borrow.Author.Tests.{le-ltb, ltb-false}
use Rattle.text_rules.specs.Bytes.{All, Lacks, ◌when◌, ◌∈◌, ascii, total}
use Rattle.text_rules.specs.BytesLaws.{All-at, All-map, kept-total, or_else-first, or_else-rest, when-fails, whether}
use Rattle.text_rules.proofs.DecimalLaws.{decimal-length}
use Rattle.text_rules.specs.Order.{sort}
use Rattle.text_rules.proofs.OrderLaws.{sort-total}
use Rattle.text_rules.specs.Sizes.{max_baseline, max_functions, max_tree}
use Rattle.gate_rules.specs.Baseline.{Entry, entries, entry_key, lookup}
use Rattle.gate_rules.proofs.BaselineLaws.{key-name, key-path, lookup-found, lookup-none}
use Rattle.gate_rules.proofs.CallLaws.{check_zero, update-succeeds, updated_accepted, updated_writes}
use Rattle.gate_rules.specs.Calls.{check_answer, check_call, room, update_call, update_number}
use Rattle.gate_rules.specs.Check.{against, distinct, gone, listing, regressions, stale, stale_text, verdict_text}
use Rattle.gate_rules.specs.Functions.{Fun, Limits, key, over}
use Rattle.gate_rules.specs.History.{bytes_written}
use Rattle.gate_rules.specs.Promises.{Alone, Clean, Enough, Settled, Settles}
use Rattle.gate_rules.proofs.RoundTrip.{entry_for, in_recorded, recorded-all, recorded_in, written-entries}
use Rattle.gate_rules.specs.Scan.{Scan, ScanLaws, WellMade, functions_of}
use Rattle.gate_rules.proofs.StaleLaws.{among_in}
use Rattle.gate_rules.proofs.TableLaws.{updated_number}
use Rattle.gate_rules.specs.Update.{baseline_text, header, over_limit, recorded, row, row_before, rows}

-- an element stands somewhere in its list
place_of : {A : Type 0} (l : List A) {x : A} → x ∈ l → (xs : List A) × (ys : List A) × (l ≡ xs ++ x ∷ ys)
place_of (y ∷ l) (Memᴰ.head q) = ([], l, rw q)
place_of (y ∷ l) (Memᴰ.tail m) = let (xs, ys, e) = place_of l m in (y ∷ xs, ys, ap (λ r. y ∷ r) e)
place_of [] m = elim m [ ]

elsewhere : {A : Type 0} (xs : List A) (x : A) (ys : List A) {y : A} → y ∈ xs ++ x ∷ ys → (y ≡ x) ⊎ (y ∈ xs ++ ys)
elsewhere xs x ys m =
    elim (Memᴰ.append_cases xs m) [
      | inl n ↦ inr (Memᴰ.append_left ys n)
      | inr n ↦ elim (Memᴰ.cases_cons n) [ inl q ↦ inl q | inr o ↦ inr (Memᴰ.append_right xs o) ]
    ]

module _ (L : Limits) where
  -- no function regresses against its own entry
  against-own : (f g : Fun) (d : Entry) → f ≡ g → entry_for g ≡ d → against L f (some d) ≡ []
  against-own f g d p q = rw (← q, p, le-ltb g.cyclomatic g.cyclomatic (omega arith), le-ltb g.lines g.lines (omega arith))

  module _ (fs : List Fun) (made : All WellMade fs) (alone : Alone L fs) where
    -- a function with the key of an over-limit one is that one
    only : {f g : Fun} → f ∈ fs → g ∈ fs → over L g ≡ true → key g ≡ key f → f ≡ g
    only {f} {g} m n h k =
        let tab : Lacks 9 f.path = (All-at WellMade fs made m).path-tab in
        let tab' : Lacks 9 g.path = (All-at WellMade fs made n).path-tab in
        let (xs, ys, e) = place_of fs n in
        elim (elsewhere xs g ys (rw e at m)) [
          | inl q ↦ q
          | inr o ↦
              absurd (alone xs g ys e h f o
              (sym (key-path g.path f.path g.name f.name tab' tab k))
              (sym (key-name g.path f.path g.name f.name tab' tab k)))
        ]

    unworse : (f : Fun) → f ∈ fs → (o : Option Entry) → lookup (key f) (map entry_for (recorded L fs)) ≡ o → against L f o ≡ []
    unworse f m none e =
        elim (whether (over L f)) [
          | inl h ↦ absurd (lookup-none (key f) _ e (Memᴰ.map entry_for (in_recorded L fs m h)) refl)
          | inr h ↦ rw h
        ]
    unworse f m (some d) e =
        let found = lookup-found (key f) (map entry_for (recorded L fs)) d e in
        let (g, r, q) = Memᴰ.of_map entry_for (recorded L fs) found.0 in
        let inside = recorded_in L fs r in
        let k : key g ≡ key f = rw (← q) at found.1 in
        let p : f ≡ g = only m inside.0 inside.1 k in
        against-own f g d p q

  regressions_nil : (es : List Entry) (gs : List Fun) → ((f : Fun) → f ∈ gs → against L f (lookup (key f) es) ≡ []) → regressions L es gs ≡ []
  unfolding regressions
  regressions_nil es [] h = refl
  regressions_nil es (g ∷ gs) h = rw (h g (Memᴰ.head refl), regressions_nil es gs (λ f m. h f (Memᴰ.tail m)))

  -- keys that are all live are not gone
  gone_nil : (live ks : List (List ℕ)) → ((k : List ℕ) → k ∈ ks → k ∈ live) → gone live ks ≡ []
  unfolding gone
  gone_nil live [] h = refl
  gone_nil live (k ∷ ks) h = rw (among_in live (h k (Memᴰ.head refl))) (gone_nil live ks (λ j m. h j (Memᴰ.tail m)))

  -- a row's key is that of its function
  row-key : (fs : List Fun) (k : List ℕ) → k ∈ map entry_key (map entry_for (recorded L fs)) → k ∈ map key fs
  row-key fs k m =
      let (e, n, p) = Memᴰ.of_map entry_key (map entry_for (recorded L fs)) m in
      let (f, r, q) = Memᴰ.of_map entry_for (recorded L fs) n in
      Memᴰ.cast (sym p ∙ sym (ap entry_key q)) (Memᴰ.map key (recorded_in L fs r).0)

  stale_nil : (fs : List Fun) → stale (map entry_for (recorded L fs)) fs ≡ []
  unfolding stale distinct sort
  stale_nil fs = rw (gone_nil (map key fs) (map entry_key (map entry_for (recorded L fs))) (row-key fs))

  -- no more than 33,554,432 bytes are written
  weight : Fun → ℕ
  weight f = 1048 + length f.name

  row-length : (f : Fun) → WellMade f → suc (length (row f)) ≤ weight f
  unfolding row weight
  row-length f w = simp length-append (omega (arith, w.path-short, decimal-length f.cyclomatic w.cyclomatic_u32, decimal-length f.lines w.lines_u32))

  rows-length : (fs : List Fun) → All WellMade fs → length (rows fs) ≤ total weight fs
  unfolding rows
  rows-length [] h = omega arith
  rows-length (f ∷ fs) h = simp length-append (omega (arith, row-length f h.0, rows-length fs h.1))

  total-weight : (fs : List Fun) → total weight fs ≡ 1048 * length fs + total (λ f. length f.name) fs
  unfolding weight
  total-weight [] = refl
  total-weight (f ∷ fs) = rw (total-weight fs) (omega arith)

  header-length : length header ≤ 1000
  unfolding header
  header-length = lit≤ tt

  pub text-length : (fs : List Fun) → All WellMade fs → length fs ≤ max_functions → total (λ f. length f.name) fs ≤ max_tree → length (baseline_text L fs) ≤ max_baseline
  unfolding baseline_text recorded over_limit
  text-length fs made few names =
      let made' : All WellMade (recorded L fs) = All-map _ WellMade (λ f w. w.0) (recorded L fs) (recorded-all L WellMade fs made) in
      simp length-append (omega (arith, header-length, rows-length (recorded L fs) made', sort-total row_before weight (over_limit L fs), kept-total (over L) weight fs, total-weight fs))

  -- a check at number 0 that finds nothing is clean
  clean_at : (n : ℕ) (es : List Entry) (fs : List Fun) → n ≡ 0 → regressions L es fs ≡ [] → stale es fs ≡ [] → Clean (check_answer L n es fs)
  clean_at n es fs z r t = rw z (record { succeeds = refl; no-regressions = ap length r; no_stale = ap length t })

  -- where an update succeeded, whatever the buffers were
  pub settles_updated : (S : Scan) → ScanLaws S → (tree work records output : List ℕ)
      → (update_call S L tree work records output).answer.number ≡ 0
      → Alone L (functions_of S tree)
      → Settled S L tree (update_call S L tree work records output)
  unfolding check_call
  settles_updated S laws tree work records output z alone =
      let a = updated_accepted S L tree work records output z in
      let made = laws.well_made tree a in
      let fs = functions_of S tree in
      let baseline = bytes_written (update_call S L tree work records output) in
      let text : baseline ≡ baseline_text L fs = updated_writes S L tree work records output z in
      let es : entries baseline ≡ map entry_for (recorded L fs) = ap entries text ∙ written-entries L fs made in
      let short : length baseline ≤ max_baseline = rw text (text-length fs made a.few (laws.names_fit tree a)) in
      record {
        written = z;
        clean = λ again accepted same_files work' records' output' b.
            let functions : functions_of S again ≡ fs = ap S.functions_in same_files in
            let regressed : regressions L (entries baseline) (functions_of S again) ≡ [] = rw (es, functions) (regressions_nil (map entry_for (recorded L fs)) fs (λ f m. unworse fs made alone f m _ refl)) in
            let no_stale : stale (entries baseline) (functions_of S again) ≡ [] = rw (es, functions) (stale_nil fs) in
            clean_at _ (entries baseline) (functions_of S again) (check_zero S L again baseline work' records' output' accepted short b.work-holds b.records_hold b.output-holds) regressed no_stale;
      }

  -- an update that succeeds was lent enough
  pub updated_enough : (S : Scan) (tree work records output : List ℕ) → (update_call S L tree work records output).answer.number ≡ 0 → Enough S L tree work records output
  unfolding update_call update_number
  updated_enough S tree work records output e =
      let z : update_number S L tree work records output ≡ 0 = sym (updated_number L _ _) ∙ e in
      let r₅ = or_else-rest (S.refusal tree) _ z in
      let r₈ = or_else-rest (5 when ltb (length work) (length tree)) _ r₅ in
      let r₉ = or_else-rest (8 when ltb (room records) (length (functions_of S tree))) _ r₈ in
      record {
        work-holds = ltb-false (length work) (length tree) (when-fails 4 _ (or_else-first _ _ r₅));
        records_hold = omega (arith, ltb-false (room records) (length (functions_of S tree)) (when-fails 7 _ (or_else-first _ _ r₈)));
        output-holds = ltb-false (length output) (length (baseline_text L (functions_of S tree))) (when-fails 8 _ r₉);
      }

  pub settles : (S : Scan) → ScanLaws S → Settles S L
  settles S laws tree a alone work records output e =
      settles_updated S laws tree work records output (update-succeeds S L tree work records output a e.work-holds e.records_hold e.output-holds) alone

  -- a clean check's listing is its one closing line
  pub quiet : (es : List Entry) (fs : List Fun) → regressions L es fs ≡ [] → stale es fs ≡ []
      → listing L es fs ≡ ascii "complexity: no function got worse, nothing new is over the thresholds\n"
  unfolding listing stale_text verdict_text
  quiet es fs r t = rw (r, t)
