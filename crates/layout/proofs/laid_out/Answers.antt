-- `layout::laid_out` meets its contract: after k entries, the entries that are left fit from the running place on exactly if all do.
use Prim.Native.Nat.{ℕ, ◌+◌, ◌-◌, ◌*◌, ◌≤◌, ◌<◌}
use mathlib.Core.Path.{◌≡◌, sym, ap, ◌∙◌}
use mathlib.Core.List.{List}
use mathlib.Core.Bool.{true, false}
use native.Mathlib.Omega.{arith}
use lib.ListN.{length}
use Rattle.gate_rules.specs.Tree.{file_count, entries_fit, entry_fits, is_laid_out, text_length, text_offset}
use Rattle.gate_rules.proofs.ScanForms.{entries-step, entries-end, layout_short, layout_many, layout_no-table, layout_rest}
use Rattle.layout.specs.Entry.{entry_in, fits, fits-in}
use Rattle.layout.specs.declared.Entry.{Entry}
use Rattle.layout.proofs.laid_out.Goals as goal

-- the test of an entry that is read is the definition's
tested : (tree : List ℕ) (at running : ℕ) (e : Entry) → e ≡ entry_in tree at → fits e running (length tree) ≡ entry_fits tree at running
tested tree at running e is = ap (λ d. fits d running (length tree)) is ∙ fits-in tree at running

next : (tree : List ℕ) (n k place end : ℕ) → k < n → entry_fits tree (4 + 16 * k) place ≡ true → end ≡ text_offset tree (4 + 16 * k) + text_length tree (4 + 16 * k)
    → entries_fit tree (n - (k + 1)) (4 + 16 * (k + 1)) end ≡ entries_fit tree (n - k) (4 + 16 * k) place
next tree n k place end h f e =
    ap (entries_fit tree (n - (k + 1)) (4 + 16 * (k + 1))) e ∙ sym (entries-step tree n k place h ∙ rw f)

stops : (tree : List ℕ) (n k place : ℕ) → k < n → entry_fits tree (4 + 16 * k) place ≡ false → entries_fit tree (n - k) (4 + 16 * k) place ≡ false
stops tree n k place h f = entries-step tree n k place h ∙ rw f

whole : (tree : List ℕ) (n : ℕ) → 4 ≤ length tree → n ≡ file_count tree → n ≤ 1024 → 4 + 16 * n ≤ length tree → is_laid_out tree ≡ entries_fit tree n 4 (4 + 16 * n)
whole tree n h e l t = layout_rest tree h (omega arith) (omega arith) ∙ ap (λ m. entries_fit tree m 4 (4 + 16 * m)) (sym e)

pub returns-then-tree-lt4 : goal.returns-then-tree-lt4
returns-then-tree-lt4 c = sym (layout_short c.args.tree.now (omega arith))

pub returns-then-n-gt-MAX_FILES : goal.returns-then-n-gt-MAX_FILES
returns-then-n-gt-MAX_FILES c = sym (layout_many c.args.tree.now (omega arith) (omega arith))

pub returns-then-tree-table : goal.returns-then-tree-table
returns-then-tree-table c = sym (layout_no-table c.args.tree.now (omega arith) (omega arith) (omega arith))

pub loop-k-preserved : goal.loop-k-preserved
loop-k-preserved c =
    let tree = c.args.tree.now in
    let n = c.file_count-n.result in
    let l = c.loop-k in
    let e = c.read-entry.ensures in (
      omega arith,
      next tree n l.k l.running _ (omega arith) (sym (tested tree (4 + 16 * l.k) l.running _ e) ∙ sym c.fits.ensures ∙ c.if-not-fits.false) (c.text-running.ensures.to ∙ ap (λ d. d.text + d.text_length) e) ∙ l.invariant.1,
    )

pub returns-then-not-fits : goal.returns-then-not-fits
returns-then-not-fits c =
    let tree = c.args.tree.now in
    let n = c.file_count-n.result in
    let l = c.loop-k in
    sym (whole tree n (omega arith) c.file_count-n.ensures.0 (omega arith) (omega arith) ∙ sym l.invariant.1
    ∙ stops tree n l.k l.running (omega arith) (sym (tested tree (4 + 16 * l.k) l.running _ c.read-entry.ensures) ∙ sym c.fits.ensures ∙ c.if-not-fits.true))

pub returns : goal.returns
returns c =
    let tree = c.args.tree.now in
    let n = c.file_count-n.result in
    let l = c.loop-k in
    sym (whole tree n (omega arith) c.file_count-n.ensures.0 (omega arith) (omega arith) ∙ sym l.invariant.1 ∙ entries-end tree n l.k (4 + 16 * l.k) l.running (omega arith))
