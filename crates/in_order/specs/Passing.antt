-- The stale keys of the lines that a pass has still to come to.
use Rattle.std.specs.Prelude.{ℕ, ◌+◌, ◌≤◌, ◌≡◌, Bool, true, false, ◌||◌, length, drop}
use Rattle.std.proofs.Math.Path.{refl}
use Rattle.std.proofs.Common.{ap, ◌∙◌, arith}
use mathlib.Core.List.{List, [], ◌∷◌, ◌++◌, map}
use Rattle.std.proofs.Math.Option.{Option, none, some}
use Rattle.text_rules.specs.Bytes.{◌∈◌, among, total}
use Rattle.text_rules.specs.BytesLaws.{All_in, All-map, total-map, total-most}
use Rattle.text_rules.specs.Search.{bytes_before}
use Rattle.text_rules.specs.Utf8.{is_utf8}
use Rattle.gate_rules.specs.Baseline.{entries_of_lines, entry_key, entry_of}
use Rattle.gate_rules.specs.Check.{listed}
use Rattle.gate_rules.proofs.EntryLaws.{keys_fit}
use Rattle.gate_rules.specs.Functions.{key}
use Rattle.gate_rules.specs.Gate.{gate}
use Rattle.gate_rules.specs.Scan.{functions_of}
use Rattle.baseline.specs.Ordered.{Unfalling, keys-end, keys-line, keys_in}
use Rattle.baseline.specs.Reads.{key_of_entry, line_at}
use Rattle.key_lines.specs.Keys.{repeats}
use Rattle.listed_keys.specs.KeyLines.{bytes_step, key_lines, line-length}
use Rattle.in_order.specs.InOrder.{added_by, in_order_lem, in_order-end, in_order-line, in_order-most, in_order, last_after}
use Rattle.in_order.specs.StaleKeys.{entries-read, stale_in}

-- ---- what a line adds

pub known-last : (a b : Bool) → a ≡ true → true ≡ (a || b)
known-last a b e = rw e

pub known-rest : (a b : Bool) → a ≡ false → b ≡ (a || b)
known-rest a b e = rw e

module _ (live : List (List ℕ)) (last : Option (List ℕ)) (k : List ℕ) where
  abbrev known : Bool
  known = repeats last k || among k live

  pub adds_none : known ≡ true → added_by live last (some k) ≡ []
  adds_none e = rw e

  pub adds-key : known ≡ false → added_by live last (some k) ≡ k ∷ []
  adds-key e = rw e

-- ---- line by line

module _ (tree lines : List ℕ) where
  abbrev pub live : List (List ℕ)
  live = map key (functions_of gate tree)

  -- the stale keys from a place on, behind the last key in front of it
  abbrev pub to_come : (last : Option (List ℕ)) (from : ℕ) → List (List ℕ)
  to_come last from = in_order live last (keys_in (drop from lines))

  pub come_line : (last here : Option (List ℕ)) (from end : ℕ) → end ≡ from + bytes_before 10 (drop from lines)
      → here ≡ key_of_entry (entry_of (line_at lines from end)) → to_come last from ≡ added_by live last here ++ to_come (last_after last here) (end + 1)
  come_line last here from end e q =
      ap (in_order live last) (keys-line lines from end here e q) ∙ in_order-line live last here (keys_in (drop (end + 1) lines))

  pub come_end : (last : Option (List ℕ)) (from : ℕ) → length lines ≤ from → to_come last from ≡ []
  come_end last from h = ap (in_order live last) (keys-end lines from h) ∙ in_order-end live last

  -- where no key falls, all are the stale keys
  pub come_all : Unfalling (keys_in lines) → to_come none 0 ≡ stale_in tree lines
  come_all u = in_order_lem (entries_of_lines lines) (functions_of gate tree) u

  -- ---- their number and their bytes are small, whether keys fall or not

  lines-total : (ks : List (List ℕ)) → length (key_lines ks) ≡ total (λ k. 3 + length k) ks
  unfolding listed
  lines-total [] = refl
  lines-total (k ∷ ks) = bytes_step (k ∷ ks) (k ∷ []) ks refl ∙ (omega (arith, line-length k, lines-total ks))

  count_most : (ks : List (List ℕ)) → length ks ≤ total (λ k. 3 + length k) ks
  count_most [] = omega arith
  count_most (k ∷ ks) = omega (arith, count_most ks)

  pub come_small : is_utf8 lines ≡ true → (length (to_come none 0) ≤ length lines) × (length (key_lines (to_come none 0)) ≤ length lines)
  come_small u =
      let es = entries_of_lines lines in
      let all : total (λ k. 3 + length k) (to_come none 0) ≤ length lines = omega (
        arith,
        in_order-most live (λ k. 3 + length k) none (map entry_key es),
        total-map (λ k. 3 + length k) entry_key es,
        total-most (λ e. 3 + length (entry_key e)) (λ e. 4 + length (entry_key e)) es
            (All-map (λ e. e ∈ es) (λ e. 3 + length (entry_key e) ≤ 4 + length (entry_key e)) (λ e m. omega arith) es (All_in es)),
        ap (total (λ e. 4 + length (entry_key e))) (entries-read lines u),
        keys_fit lines,
      ) in
      (omega (arith, count_most (to_come none 0)), omega (arith, lines-total (to_come none 0)))
