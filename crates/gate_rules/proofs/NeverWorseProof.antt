-- The proof of the first half of demand 3. What is kept from call to call: each entry of the standing baseline, and each over-limit
-- function of a tree that has passed, goes back to a function of the first tree.
use Rattle.std.specs.Prelude.{ℕ, ◌≤◌, ◌≡◌, Bool, true, false, eqb, ltb}
use Rattle.std.proofs.Math.Path.{refl}
use Rattle.std.proofs.Common.{◌∙◌}
use Rattle.std.proofs.Math.Logic.{inl, inr}
use mathlib.Core.List.Memᴰ
use mathlib.Core.List.{List, [], ◌∷◌, ◌++◌}
use Rattle.std.proofs.Math.Option.{Option, none, some}
use native.Mathlib.Omega.{arith}
use borrow.Author.Tests.{ltb-false, eqb-true}
use Rattle.text_rules.specs.Bytes.{Lacks, ◌∈◌, if◌then◌otherwise◌, kept}
use Rattle.text_rules.specs.BytesLaws.{All-at, whether}
use Rattle.gate_rules.specs.Baseline.{Entry, entries, entry_key, lookup}
use Rattle.gate_rules.proofs.BaselineLaws.{key-name, key-path, lookup-found}
use Rattle.gate_rules.proofs.CallLaws.{passed-accepted, passed-clean, updated_accepted, updated_writes}
use Rattle.gate_rules.specs.Calls.{check_call, update_call}
use Rattle.gate_rules.specs.Check.{against, more_branches, more_lines, new_and_over, regressions}
use Rattle.gate_rules.specs.Functions.{Fun, Limits, key, over}
use Rattle.gate_rules.specs.History.{Allowed, Call, IsHistory, Pass, State, bytes_written, check, passed, passed_by, passing, start, step, update}
use Rattle.gate_rules.specs.Promises.{Before, NeverWorse}
use Rattle.gate_rules.proofs.RoundTrip.{entry_for, recorded_in, written-entries}
use Rattle.gate_rules.specs.Scan.{Accepted, Scan, ScanLaws, WellMade, functions_of}
use Rattle.gate_rules.specs.Update.{recorded}

nil_left : {A : Type 0} (xs ys : List A) → xs ++ ys ≡ [] → xs ≡ []
nil_left [] ys e = refl
nil_left (x ∷ xs) ys e = cc

nil_right : {A : Type 0} (xs ys : List A) → xs ++ ys ≡ [] → ys ≡ []
nil_right [] ys e = e
nil_right (x ∷ xs) ys e = cc

test_failed : (b : Bool) (line : List ℕ) → (if b then line ∷ [] otherwise []) ≡ [] → b ≡ false
test_failed true line e = cc
test_failed false line e = refl

module _ (L : Limits) where
  -- without regressions, no function of the tree regresses
  regressions-none : (es : List Entry) (fs : List Fun) → regressions L es fs ≡ [] → {f : Fun} → f ∈ fs → against L f (lookup (key f) es) ≡ []
  unfolding regressions
  regressions-none es (g ∷ fs) e {f} (Memᴰ.head q) = rw q (nil_left (against L g (lookup (key g) es)) _ e)
  regressions-none es (g ∷ fs) e (Memᴰ.tail m) = regressions-none es fs (nil_right (against L g (lookup (key g) es)) _ e) m
  regressions-none es [] e m = elim m [ ]

  -- the entry lists the function, with at least its measures
  record Listed (es : List Entry) (f : Fun) (e : Entry) : Type 0 where
    inside : e ∈ es
    same_key : entry_key e ≡ key f
    cyclomatic : f.cyclomatic ≤ e.cyclomatic
    lines : f.lines ≤ e.lines

  -- an over-limit function that does not regress is listed
  is-listed : (es : List Entry) (f : Fun) → over L f ≡ true → (o : Option Entry) → lookup (key f) es ≡ o → against L f o ≡ [] → (e : Entry) × Listed es f e
  is-listed es f h none q r = let z : new_and_over f ∷ [] ≡ [] = rw h at r in let o : ◌≡◌ {A = ℕ} 0 1 = cc in absurd (omega arith)
  is-listed es f h (some e) q r =
      let c = test_failed (ltb e.cyclomatic f.cyclomatic) (more_branches f e) (nil_left _ _ r) in
      let l = test_failed (ltb e.lines f.lines) (more_lines f e) (nil_right (if ltb e.cyclomatic f.cyclomatic then more_branches f e ∷ [] otherwise []) _ r) in
      let found = lookup-found (key f) es e q in
      (e, record { inside = found.0; same_key = found.1; cyclomatic = ltb-false _ _ c; lines = ltb-false _ _ l })

  module _ (S : Scan) (laws : ScanLaws S) (first : List ℕ) (accepted : Accepted S first) where
    EntriesBefore : List ℕ → Type 0
    EntriesBefore baseline = (e : Entry) → e ∈ entries baseline → Before S L first e.path e.name e.cyclomatic e.lines

    OversBefore : List ℕ → Type 0
    OversBefore tree = (f : Fun) → f ∈ functions_of S tree → over L f ≡ true → Before S L first f.path f.name f.cyclomatic f.lines

    -- what holds at each state of a history
    record GoesBack (s : State) : Type 0 where
      entries-kept : EntriesBefore s.standing
      passes_kept : (p : Pass) → p ∈ s.passes → OversBefore p.tree

    no-tab : (tree : List ℕ) → Accepted S tree → {f : Fun} → f ∈ functions_of S tree → Lacks 9 f.path
    no-tab tree a m = (All-at WellMade (functions_of S tree) (laws.well_made tree a) m).path-tab

    -- an over-limit function goes back as far as the entry that lists it
    back : (tree : List ℕ) → Accepted S tree → (baseline : List ℕ) → EntriesBefore baseline
        → (f : Fun) → f ∈ functions_of S tree → (e : Entry) → Listed (entries baseline) f e → Before S L first f.path f.name f.cyclomatic f.lines
    unfolding EntriesBefore
    back tree a baseline kept f m e l =
        let b = kept e l.inside in
        let tab : Lacks 9 e.path = rw b.same-path at (no-tab first accepted b.of_first) in
        let path = key-path e.path f.path e.name f.name tab (no-tab tree a m) l.same_key in
        let name = key-name e.path f.path e.name f.name tab (no-tab tree a m) l.same_key in
        let c = l.cyclomatic in
        let n = l.lines in
        record {
          earlier = b.earlier;
          of_first = b.of_first;
          over_limit = b.over_limit;
          same-path = b.same-path ∙ path;
          same_name = b.same_name ∙ name;
          at-least-cyclomatic = omega (arith, b.at-least-cyclomatic);
          at-least-lines = omega (arith, b.at-least-lines);
        }

    -- the functions of a tree that passes against entries that go back go back too
    pass_back : (tree baseline work records output : List ℕ) → EntriesBefore baseline → passed (check_call S L tree baseline work records output) ≡ true → OversBefore tree
    unfolding OversBefore
    pass_back tree baseline work records output kept e f m h =
        let a = passed-accepted S L tree baseline work records output e in
        let none-worse = regressions-none (entries baseline) (functions_of S tree) (passed-clean S L tree baseline work records output e) m in
        let (d, l) = is-listed (entries baseline) f h (lookup (key f) (entries baseline)) refl none-worse in
        back tree a baseline kept f m d l

    -- and so do the entries that update writes from such a tree
    update-back : (tree work records output : List ℕ) → OversBefore tree → (update_call S L tree work records output).answer.number ≡ 0 → EntriesBefore (bytes_written (update_call S L tree work records output))
    unfolding EntriesBefore OversBefore
    update-back tree work records output kept z e m =
        let made = laws.well_made tree (updated_accepted S L tree work records output z) in
        let in_rows = rw (updated_writes S L tree work records output z, written-entries L (functions_of S tree) made) at m in
        let (f, r, q) = Memᴰ.of_map entry_for (recorded L (functions_of S tree)) in_rows in
        let inside = recorded_in L (functions_of S tree) r in
        rw (← q) (kept f inside.0 inside.1)

    step_kept : (s : State) → GoesBack s → (c : Call) → Allowed S L s c → GoesBack (step S L s c)
    unfolding step Allowed
    step_kept s k (check tree work records output) h =
        elim (whether (passed (check_call S L tree s.standing work records output))) [
          | inl e ↦
              let now : OversBefore tree = pass_back tree s.standing work records output k.entries-kept e in
              rw e (record {
                entries-kept = k.entries-kept;
                passes_kept = λ p m. elim (Memᴰ.cases_cons m) [ inl q ↦ rw q now | inr n ↦ k.passes_kept p n ];
              })
          | inr e ↦ rw e k
        ]
    step_kept s k (update tree work records output) h =
        elim (whether (eqb (update_call S L tree work records output).answer.number 0)) [
          | inl e ↦
              let z = eqb-true (update_call S L tree work records output).answer.number 0 e in
              record {
                entries-kept = rw e (update-back tree work records output (k.passes_kept _ h) z);
                passes_kept = k.passes_kept;
              }
          | inr e ↦ record { entries-kept = rw e k.entries-kept; passes_kept = k.passes_kept }
        ]

    call_passes : (s : State) → GoesBack s → (c : Call) {tree : List ℕ} → tree ∈ passed_by S L s c → OversBefore tree
    unfolding passed_by
    call_passes s k (check tree work records output) m =
        elim (whether (passed (check_call S L tree s.standing work records output))) [
          | inl e ↦ rw (Memᴰ.eq_of_singleton (rw e at m)) (pass_back tree s.standing work records output k.entries-kept e)
          | inr e ↦ absurd (Memᴰ.not-nil (rw e at m))
        ]
    call_passes s k (update tree work records output) m = absurd (Memᴰ.not-nil m)

    history_kept : (s : State) → GoesBack s → (calls : List Call) → IsHistory S L s calls → {tree : List ℕ} → tree ∈ passing S L s calls → OversBefore tree
    unfolding IsHistory passing
    history_kept s k [] h m = absurd (Memᴰ.not-nil m)
    history_kept s k (c ∷ calls) h m =
        elim (Memᴰ.append_cases (passed_by S L s c) m) [
          | inl n ↦ call_passes s k c n
          | inr n ↦ history_kept (step S L s c) (step_kept s k c h.0) calls h.1 n
        ]

    first-kept : (work records output : List ℕ) → (update_call S L first work records output).answer.number ≡ 0 → GoesBack (start (update_call S L first work records output))
    unfolding OversBefore
    first-kept work records output z =
        record {
          entries-kept = update-back first work records output (λ f m h. record { earlier = f; of_first = m; over_limit = h; same-path = refl; same_name = refl; at-least-cyclomatic = omega arith; at-least-lines = omega arith }) z;
          passes_kept = λ p m. absurd (Memᴰ.not-nil m);
        }

  pub never-worse : (S : Scan) → ScanLaws S → NeverWorse S L
  unfolding OversBefore
  never-worse S laws first work records output z calls h tree m =
      let accepted = updated_accepted S L first work records output z in
      history_kept S laws first accepted (start (update_call S L first work records output)) (first-kept S laws first accepted work records output z) calls h m
