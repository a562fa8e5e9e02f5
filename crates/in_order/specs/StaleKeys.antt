-- The stale keys of a tree and a baseline.
use Rattle.std.specs.Prelude.{ℕ, ◌≤◌, ◌≡◌, Bool, true}
use Rattle.std.proofs.Math.Path.{ap}
use mathlib.Core.List.{List, [], ◌∷◌}
use Rattle.std.proofs.Math.Option.{Option, none, some}
use Rattle.std.proofs.Math.ListN.{length, length-append}
use Rattle.text_rules.specs.Bytes.{before}
use Rattle.gate_rules.specs.Baseline.{entries_of_lines, entries}
use Rattle.gate_rules.specs.Check.{stale, listed, listing, regressions, stale_text, verdict_text}
use Rattle.gate_rules.specs.Gate.{gate}
use Rattle.gate_rules.specs.Scan.{functions_of}
use Rattle.functions.specs.Shown.{Stand}
use native.Mathlib.Omega.{arith}
use Rattle.text_rules.specs.Utf8.{is_utf8}
use Rattle.gate_rules.specs.Functions.{gate_limits}
use Rattle.gate_rules.proofs.ListingSizes.{listing-length, stale-count}
use Rattle.listed_keys.specs.KeyLines.{key_lines}

-- the stale keys of a baseline's lines
abbrev pub stale_in : (tree lines : List ℕ) → List (List ℕ)
stale_in tree lines = stale (entries_of_lines lines) (functions_of gate tree)

-- behind the last key, where there is one
abbrev pub behind : Option (List ℕ) → List ℕ → Bool
behind none k = true
behind (some l) k = before l k

-- how many there are, and how long their lines are
pub entries-read : (lines : List ℕ) → is_utf8 lines ≡ true → entries lines ≡ entries_of_lines lines
unfolding entries
entries-read lines e = rw e

module _ (tree lent lines : List ℕ) (st : Stand tree lent) (e : is_utf8 lines ≡ true) (short : length lines ≤ 33554432) where
  pub count_small : length (stale_in tree lines) ≤ 33554432
  count_small = omega (arith, ap (λ es. length (stale es (functions_of gate tree))) (entries-read lines e), stale-count lines (functions_of gate tree))

  text-least : (keys : List (List ℕ)) → length (key_lines keys) ≤ length (stale_text keys)
  unfolding stale_text listed
  text-least [] = omega arith
  text-least (k ∷ keys) = simp length-append (omega arith)

  pub lines-small : length (key_lines (stale_in tree lines)) ≤ 90000000
  unfolding listing gate
  lines-small =
      let fs = functions_of gate tree in
      let whole = listing-length gate_limits tree record { unrefused = st.unrefused; few = st.few } lines short in
      let keys = stale (entries lines) fs in
      let same = ap (λ es. length (key_lines (stale es fs))) (entries-read lines e) in
      omega (arith, same, text-least keys, whole, length-append (stale_text keys) (verdict_text (regressions gate_limits (entries lines) fs)))
