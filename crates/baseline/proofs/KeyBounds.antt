-- The key of a line is the beginning of the line.
use Prim.Native.Nat.{ℕ}
use mathlib.Core.Path.{◌≡◌, ap, sym, ◌∙◌}
use mathlib.Core.List.{List}
use mathlib.Core.Option.{none, some}
use native.Mathlib.Omega.{arith}
use lib.ListN.{length, take}
use lib.Seq.{length-take-le}
use Rattle.gate_rules.specs.Baseline.{entry_of}
use Rattle.baseline.specs.Fields.{own_key}
use Rattle.baseline.specs.Reads.{Inside, KeyFrom, PathEnds, entry_in, key_of_entry}
use Rattle.std.specs.Prelude.{Option, Some, None}
use Rattle.baseline.specs.declared.Listed.{Listed}

module _ (line : List ℕ) (r : Option Listed) (inside : Inside line r) (is : entry_in line r ≡ entry_of line) where
  pub key-some : (l : Listed) → r ≡ Some l → some (take l.name_end line) ≡ key_of_entry (entry_of line)
  key-some l e =
      let here : Inside line (Some l) = rw e at inside in
      ap some (sym (own_key line l here)) ∙ ap key_of_entry (ap (entry_in line) (sym e) ∙ is)

  pub key-from : (path : ℕ) → PathEnds r path → (l : Listed) → r ≡ Some l → KeyFrom (some (take l.name_end line)) line path
  key-from path p l e =
      let here : Inside line (Some l) = rw e at inside in
      let ends : l.path_end ≡ path = rw e at p in
      let size : length (take l.name_end line) ≡ l.name_end = length-take-le _ _ (omega (arith, here.1)) in
      (ap (λ n. take n line) (sym size), omega (arith, here.0), omega (arith, here.1))

  pub key-none : r ≡ None → none ≡ key_of_entry (entry_of line)
  key-none e = ap key_of_entry (ap (entry_in line) (sym e) ∙ is)
