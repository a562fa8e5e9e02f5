-- How long the listings of an accepted tree can be, for every limits and every baseline of at most 33,554,432 bytes.
use Rattle.std.specs.Prelude.{ℕ, zero, suc, ◌+◌, ◌*◌, ◌≤◌, ◌<◌, ◌≡◌, refl, Bool, true, false, ltb, take}
use mathlib.Core.List.{List, [], ◌∷◌, map}
use Rattle.std.proofs.Math.Option.{Option, none, some}
use native.Mathlib.Omega.{arith}
use Rattle.std.proofs.Math.ListN.{length, length-append}
use Rattle.std.proofs.lemmas.List.{length-map, length-replicate}
use Rattle.std.proofs.Common.{length-take}
use Rattle.text_rules.specs.Bytes.{All, ◌∈◌, if◌then◌otherwise◌, total}
use Rattle.text_rules.specs.BytesLaws.{All-at, All_in, All-map, kept-all, kept-total, total-append, total-both, total-most, total-same}
use Rattle.text_rules.specs.Decimal.{decimal}
use Rattle.text_rules.proofs.DecimalLaws.{decimal-length, decimal-length_u64}
use Rattle.text_rules.specs.Order.{sort}
use Rattle.text_rules.proofs.OrderLaws.{sort-all, sort-total}
use Rattle.gate_rules.specs.Baseline.{Entry, entries, entry_key, lookup}
use Rattle.gate_rules.proofs.BaselineLaws.{lookup-found}
use Rattle.gate_rules.specs.Check.{against, listed, listing, location, more_branches, more_lines, new_and_over, regressions, spaced, stale, stale_text, verdict_text}
use Rattle.gate_rules.proofs.EntryLaws.{InRange, entries_range, keys_fit}
use Rattle.gate_rules.specs.Functions.{Fun, Limits, key, over}
use Rattle.gate_rules.specs.Gate.{gate}
use Rattle.gate_rules.proofs.GateLaws.{gate_laws}
use Rattle.gate_rules.proofs.MeanLaws.{mean-length}
use Rattle.gate_rules.specs.Report.{Weight, heaviest, justified, report_row, report_rows, report_text, reported, weight_rows, weights, worse}
use Rattle.gate_rules.specs.ReportCall.{report_of}
use Rattle.gate_rules.proofs.RowLaws.{heaviest-first}
use Rattle.gate_rules.specs.Scan.{Accepted, functions_of}
use Rattle.gate_rules.proofs.SettlesProof.{text-length}
use Rattle.gate_rules.proofs.StaleLaws.{stale-most}
use Rattle.gate_rules.specs.Tree.{tree_refusal}
use Rattle.gate_rules.proofs.TreeSizes.{Sized, Weighed, functions-sized, tree-functions, weights_fit}
use Rattle.gate_rules.specs.Update.{baseline_text, over_limit, recorded, row_before}

-- ---- the lines of check

location-length : (f : Fun) → Sized f → length (location f) ≤ 1036 + length f.name
unfolding location
location-length f s = simp length-append (omega (arith, s.path-short, decimal-length f.line s.line_u32))

-- a line as it is listed has two spaces in front and an LF behind
abbrev listed_length : List ℕ → ℕ
listed_length line = 3 + length line

branches_length_lem : (f : Fun) (e : Entry) → Sized f → InRange e → listed_length (more_branches f e) ≤ 1076 + length f.name
unfolding more_branches
branches_length_lem f e s r =
    simp length-append (omega (arith, location-length f s, decimal-length f.cyclomatic s.cyclomatic_u32, decimal-length e.cyclomatic r.cyclomatic_u32))

lines-length : (f : Fun) (e : Entry) → Sized f → InRange e → listed_length (more_lines f e) ≤ 1085 + length f.name
unfolding more_lines
lines-length f e s r = simp length-append (omega (arith, location-length f s, decimal-length f.lines s.lines_u32, decimal-length_u64 e.lines r.lines_u64))

new_length_lem : (f : Fun) → Sized f → listed_length (new_and_over f) ≤ 1132 + length f.name
unfolding new_and_over
new_length_lem f s =
    simp length-append
    (omega (
      arith,
      location-length f s,
      decimal-length f.cyclomatic s.cyclomatic_u32,
      decimal-length f.lines s.lines_u32,
      decimal-length f.nesting s.nesting_u32,
      decimal-length f.params s.params_u32,
    ))

-- what the lines of one function have together, by any measure of a line: one line that tells of a new function, or two
module _ (L : Limits) (w : List ℕ → ℕ) where
  one-most : (b : Bool) (line : List ℕ) → total w (if b then line ∷ [] otherwise []) ≤ w line
  one-most true line = omega arith
  one-most false line = omega arith

  against-most : (f : Fun) (o : Option Entry) (most : ℕ) → w (new_and_over f) ≤ most → ((e : Entry) → o ≡ some e → w (more_branches f e) + w (more_lines f e) ≤ most) → total w (against L f o) ≤ most
  against-most f none most h k = omega (arith, one-most (over L f) (new_and_over f))
  against-most f (some e) most h k =
      let first = if ltb e.cyclomatic f.cyclomatic then more_branches f e ∷ [] otherwise [] in
      let second = if ltb e.lines f.lines then more_lines f e ∷ [] otherwise [] in
      omega (
        arith,
        k e refl,
        total-append w first second,
        one-most (ltb e.cyclomatic f.cyclomatic) (more_branches f e),
        one-most (ltb e.lines f.lines) (more_lines f e),
      )

  -- the regression lines of all functions together
  regressions-most : (es : List Entry) (most : Fun → ℕ) (fs : List Fun)
      → All (λ f. (w (new_and_over f) ≤ most f) × ((e : Entry) → lookup (key f) es ≡ some e → w (more_branches f e) + w (more_lines f e) ≤ most f)) fs
      → total w (regressions L es fs) ≤ total most fs
  unfolding regressions
  regressions-most es most [] h = omega arith
  regressions-most es most (f ∷ fs) h =
      omega (
        arith,
        total-append w (against L f (lookup (key f) es)) (regressions L es fs),
        against-most f (lookup (key f) es) (most f) h.0.0 h.0.1,
        regressions-most es most fs h.1,
      )

-- ---- check

module _ (L : Limits) where
  -- a function has at most two regression lines
  pub regressed-most : (es : List Entry) (fs : List Fun) → length (regressions L es fs) ≤ 2 * length fs
  regressed-most es fs =
      let each : All (λ f. (1 ≤ 2) × ((e : Entry) → lookup (key f) es ≡ some e → 1 + 1 ≤ 2)) fs =
      All-map (λ f. f ∈ fs) _ (λ f m. (omega arith, λ e q. omega arith)) fs (All_in fs) in
      omega (arith, total-same 1 (regressions L es fs), total-same 2 fs, regressions-most L (λ line. 1) es (λ f. 2) fs each)

  -- they have at most 2,161 bytes besides the name, which stands in each
  lines-most : Fun → ℕ
  lines-most f = 2161 + (length f.name + length f.name)

  regressions-length : (es : List Entry) → All InRange es → (fs : List Fun) → All Sized fs
      → total listed_length (regressions L es fs) ≤ 2161 * length fs + 2 * total (λ f. length f.name) fs
  unfolding lines-most
  regressions-length es range fs sized =
      let each = All-map Sized (λ f. (listed_length (new_and_over f) ≤ lines-most f) × ((e : Entry) → lookup (key f) es ≡ some e → listed_length (more_branches f e) + listed_length (more_lines f e) ≤ lines-most f))
      (λ f s. (
        omega (arith, new_length_lem f s),
        λ e q. let r = All-at InRange es range (lookup-found (key f) es e q).0 in omega (arith, branches_length_lem f e s r, lines-length f e s r),
      )) fs sized in
      omega (
        arith,
        regressions-most L listed_length es lines-most fs each,
        total-both (λ f. 2161) (λ f. length f.name + length f.name) fs,
        total-same 2161 fs,
        total-both (λ f. length f.name) (λ f. length f.name) fs,
      )

listed-length : (lines : List (List ℕ)) → length (listed lines) ≡ total listed_length lines
unfolding listed
listed-length [] = refl
listed-length (line ∷ lines) = simp length-append (omega (arith, listed-length lines))

count_most : (lines : List (List ℕ)) → length lines ≤ total listed_length lines
count_most lines =
    omega (arith, total-same 1 lines, total-most (λ line. 1) listed_length lines (All-map (λ line. line ∈ lines) (λ line. 1 ≤ listed_length line) (λ line m. omega arith) lines (All_in lines)))

spaced-length : (keys : List (List ℕ)) → total listed_length (map spaced keys) ≡ total listed_length keys
unfolding spaced
spaced-length [] = refl
spaced-length (k ∷ keys) = rw (length-map k, spaced-length keys)

stale-length : (keys : List (List ℕ)) → total listed_length keys < 4294967296 → length (stale_text keys) ≤ 80 + total listed_length keys
unfolding stale_text
stale-length [] h = omega arith
stale-length (k ∷ keys) h =
    let few = count_most (k ∷ keys) in
    simp length-append (omega (arith, decimal-length (length (k ∷ keys)) (omega arith), listed-length (map spaced (k ∷ keys)), spaced-length (k ∷ keys)))

verdict-length : (lines : List (List ℕ)) → total listed_length lines < 4294967296 → length (verdict_text lines) ≤ 80 + total listed_length lines
unfolding verdict_text
verdict-length [] h = omega arith
verdict-length (r ∷ rs) h =
    let few = count_most (r ∷ rs) in
    simp length-append (omega (arith, decimal-length (length (r ∷ rs)) (omega arith), listed-length (r ∷ rs)))

-- the stale keys, each as it is listed, fit into the baseline
stale_fit : (baseline : List ℕ) (fs : List Fun) → total listed_length (stale (entries baseline) fs) ≤ length baseline
stale_fit baseline fs =
    let es = entries baseline in
    omega (
      arith,
      stale-most listed_length es fs,
      total-most (λ e. listed_length (entry_key e)) (λ e. 4 + length (entry_key e)) es (All-map (λ e. e ∈ es) (λ e. listed_length (entry_key e) ≤ 4 + length (entry_key e)) (λ e m. omega arith) es (All_in es)),
      keys_fit baseline,
    )

-- there are no more stale entries than bytes in the baseline
pub stale-count : (baseline : List ℕ) (fs : List Fun) → length (stale (entries baseline) fs) ≤ length baseline
stale-count baseline fs = omega (arith, count_most (stale (entries baseline) fs), stale_fit baseline fs)

-- none of the refusals 1 to 4 applies to a tree that is accepted
unrefused_of : (tree : List ℕ) → Accepted gate tree → tree_refusal tree ≡ 0
unfolding gate
unrefused_of tree a = a.unrefused

all-sized : (tree : List ℕ) → Accepted gate tree → All Sized (functions_of gate tree)
all-sized tree a = functions-sized tree (unrefused_of tree a)

module _ (L : Limits) (tree : List ℕ) (a : Accepted gate tree) where
  -- what check writes
  pub listing-length : (baseline : List ℕ) → length baseline ≤ 33554432 → length (listing L (entries baseline) (functions_of gate tree)) ≤ 90000000
  unfolding listing
  listing-length baseline short =
      let fs = functions_of gate tree in
      let es = entries baseline in
      let few = a.few in
      let names = gate_laws.names_fit tree a in
      let stales = stale_fit baseline fs in
      let worse = regressions-length L es (entries_range baseline) fs (all-sized tree a) in
      simp length-append (omega (arith, stale-length (stale es fs) (omega arith), verdict-length (regressions L es fs) (omega arith)))

  -- what update writes
  pub baseline-length : length (baseline_text L (functions_of gate tree)) ≤ 33554432
  baseline-length = text-length L (functions_of gate tree) (gate_laws.well_made tree a) a.few (gate_laws.names_fit tree a)

-- ---- report

-- a text of at most ten bytes, right-justified to at most ten columns
justified-length : (width : ℕ) (text : List ℕ) → width ≤ 10 → length text ≤ 10 → length (justified width text) ≤ 10
unfolding justified
justified-length width text h k = simp (length-append, length-replicate) (omega arith)

number-length : (width n : ℕ) → width ≤ 10 → n < 4294967296 → length (justified width (decimal n)) ≤ 10
number-length width n h k = justified-length width (decimal n) h (decimal-length n k)

row-most : Fun → ℕ
row-most f = 1082 + length f.name

report-row-length : (f : Fun) → Sized f → length (report_row f) ≤ row-most f
unfolding report_row row-most
report-row-length f s =
    simp length-append
    (omega (
      arith,
      location-length f s,
      number-length 5 f.cyclomatic (omega arith) s.cyclomatic_u32,
      number-length 5 f.lines (omega arith) s.lines_u32,
      number-length 4 f.nesting (omega arith) s.nesting_u32,
      number-length 6 f.params (omega arith) s.params_u32,
    ))

report-rows-length : (fs : List Fun) → All Sized fs → length (report_rows fs) ≤ total row-most fs
unfolding report_rows
report-rows-length [] h = omega arith
report-rows-length (f ∷ fs) h = simp length-append (omega (arith, report-row-length f h.0, report-rows-length fs h.1))

-- the rows of the heaviest files, of which there are at most ten
weight-rows : (tree : List ℕ) → length tree ≤ 16777216 → (ws : List Weight) → All (Weighed tree) ws → length (weight_rows ws) ≤ 1037 * length ws
unfolding weight_rows
weight-rows tree short [] h = omega arith
weight-rows tree short (w ∷ ws) h =
    let sum = h.0.0 in
    let path = h.0.1 in
    simp length-append (omega (arith, number-length 6 w.sum (omega arith) (omega arith), weight-rows tree short ws h.1))

All-take : {A : Type 0} (P : A → Type 0) (n : ℕ) (xs : List A) → All P xs → All P (take n xs)
All-take P zero xs h = tt
All-take P (suc n) [] h = tt
All-take P (suc n) (x ∷ xs) h = (h.0, All-take P n xs h.1)

heaviest-rows : (tree : List ℕ) → length tree ≤ 16777216 → (ws : List Weight) → All (Weighed tree) ws → length (weight_rows (heaviest ws)) ≤ 10370
heaviest-rows tree short ws h =
    let (sorted, s, e) = heaviest-first ws in
    let each : All (Weighed tree) sorted = All-map (λ w. w ∈ sorted) (Weighed tree) (λ w m. All-at (Weighed tree) ws h ((s.complete w).0 m)) sorted (All_in sorted) in
    rw e (omega (arith, weight-rows tree short (take 10 sorted) (All-take (Weighed tree) 10 sorted each), length-take 10 sorted))

module _ (L : Limits) where
  -- the over-limit functions are no more than all functions
  pub over-most : (fs : List Fun) → length (over_limit L fs) ≤ length fs
  unfolding over_limit
  over-most fs = omega (arith, total-same 1 (over_limit L fs), total-same 1 fs, kept-total (over L) (λ f. 1) fs)

  pub recorded-most : (fs : List Fun) → length (recorded L fs) ≤ length fs
  unfolding recorded
  recorded-most fs = omega (arith, over-most fs, total-same 1 (over_limit L fs), total-same 1 (sort row_before (over_limit L fs)), sort-total row_before (λ f. 1) (over_limit L fs))

  reported-rows : (fs : List Fun) → All Sized fs → length (report_rows (reported L fs)) ≤ 1082 * length fs + total (λ f. length f.name) fs
  unfolding reported row-most over_limit
  reported-rows fs sized =
      let over' : All Sized (over_limit L fs) = All-map _ Sized (λ f h. h.0) (over_limit L fs) (kept-all (over L) Sized fs sized) in
      omega (
        arith,
        report-rows-length (sort worse (over_limit L fs)) (sort-all worse Sized (over_limit L fs) over'),
        sort-total worse row-most (over_limit L fs),
        kept-total (over L) row-most fs,
        total-both (λ f. 1082) (λ f. length f.name) fs,
        total-same 1082 fs,
      )

  -- what report writes
  pub report-length : (tree : List ℕ) → Accepted gate tree → length (report_of gate L tree) ≤ 30000000
  unfolding report_of report_text
  report-length tree a =
      let fs = functions_of gate tree in
      let ws = weights gate.functions_in (gate.files tree) in
      let few = a.few in
      let names = gate_laws.names_fit tree a in
      let fewer = over-most fs in
      let rows = reported-rows fs (all-sized tree a) in
      let files = heaviest-rows tree (tree-functions tree (unrefused_of tree a)).1 ws (weights_fit tree (unrefused_of tree a)) in
      simp length-append
      (omega (
        arith,
        decimal-length (length fs) (omega arith),
        mean-length (total (λ f. f.cyclomatic) fs) (length fs),
        decimal-length (length (over_limit L fs)) (omega arith),
      ))
