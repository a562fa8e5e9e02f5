-- `layout::entry_of` meets its contract: the entry lies in the tree, and so do the path and the text that it tells of.
use native.Mathlib.Omega.{arith}
use Rattle.gate_rules.proofs.FileLaws.{file-at}
use Rattle.layout.proofs.entry_of.Goals as goal

pub overflow_mul-k : goal.overflow_mul-k
overflow_mul-k c = let f = file-at _ _ c.requires.laid c.requires.few in record { fits = omega arith }

pub overflow_add-k : goal.overflow_add-k
overflow_add-k c = let f = file-at _ _ c.requires.laid c.requires.few in record { fits = omega arith }

pub read-requires : goal.read-requires
read-requires c = let f = file-at _ _ c.requires.laid c.requires.few in omega arith

pub returns : goal.returns
returns c =
    let f = file-at _ _ c.requires.laid c.requires.few in
    record { entry = c.read.ensures; path_inside = rw c.read.ensures f.path_inside; text_inside = rw c.read.ensures f.text-inside }
