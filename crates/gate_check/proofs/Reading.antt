-- What is read of a baseline: all of it, or nothing where it is not UTF-8.
use mathlib.Core.Path.{◌≡◌, refl, ap, ap₂}
use mathlib.Core.Bool.{true, false}
use mathlib.Core.List.{List, []}
use Prim.Native.Nat.{ℕ, zero, suc, ◌≤◌}
use native.Mathlib.Omega.{arith}
use lib.ListN.{length}
use Rattle.text_rules.specs.Bytes.{◌or_else◌}
use Rattle.text_rules.specs.Lines.{ended, fields, lines_in, split}
use Rattle.text_rules.specs.Utf8.{is_utf8, well_formed_after}
use Rattle.gate_rules.specs.Baseline.{entries, entries_of_lines, entry_of, entry_of_fields}
use Rattle.gate_rules.specs.Check.{listing}
use Rattle.gate_rules.specs.Functions.{Limits, is_comment}
use Rattle.gate_rules.specs.Gate.{gate}
use Rattle.gate_rules.proofs.ListingSizes.{listing-length}
use Rattle.gate_rules.specs.Scan.{functions_of}
use Rattle.functions.specs.Shown.{Stand}
use Rattle.functions.proofs.Accepted.{accepted}
use Rattle.functions.specs.declared.Functions.{Functions}
use Rattle.in_order.specs.StaleKeys.{entries-read, stale_in}
use Rattle.regressions.specs.Worse.{worse_in}

pub entries_bad : (s : List ℕ) → is_utf8 s ≡ false → entries_of_lines [] ≡ entries s
unfolding entries entries_of_lines lines_in ended split entry_of is_comment entry_of_fields fields
entries_bad s e = rw e

pub empty-good : is_utf8 [] ≡ true
unfolding is_utf8 well_formed_after
empty-good = refl

pub listing-small : (L : Limits) {tree lent : List ℕ} (lines : List ℕ) → Stand tree lent → is_utf8 lines ≡ true → length lines ≤ 33554432
    → length (listing L (entries_of_lines lines) (functions_of gate tree)) ≤ 90000000
listing-small L {tree} {lent} lines s e h =
    omega (arith, listing-length L tree (accepted tree lent s) lines h, ap (λ es. length (listing L es (functions_of gate tree))) (entries-read lines e))

-- what is told of equal functions and lines
pub same_worse : (L : Limits) {t u : Functions} {s l : List ℕ} → t ≡ u → s ≡ l → worse_in L t.tree.now s ≡ worse_in L u.tree.now l
same_worse L e d = ap₂ (λ (f : Functions) (b : List ℕ). worse_in L f.tree.now b) e d

pub same_stale : {t u s l : List ℕ} → t ≡ u → s ≡ l → stale_in t s ≡ stale_in u l
same_stale e d = ap₂ stale_in e d

-- the first of two refusals is no more than the most of them
pub or_else-most : (m n most : ℕ) → m ≤ most → n ≤ most → (m or_else n) ≤ most
or_else-most zero n most h k = k
or_else-most (suc m) n most h k = h
