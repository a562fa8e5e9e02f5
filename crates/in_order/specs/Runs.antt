-- Lines one behind another that each add their key: plain, with the path of the last key, which no function has, and a key behind it.
use Rattle.std.specs.Prelude.{ℕ, ◌+◌, ◌≤◌, ◌≡◌, List, length, drop}
use Rattle.std.proofs.Math.Option.{Option}
use Rattle.baseline.specs.Ordered.{keys_in}
use Rattle.key_lines.specs.Keys.{text_of}
use Rattle.listed_keys.specs.KeyLines.{key_lines}
use Rattle.in_order.specs.Passing.{to_come}
use Rattle.in_order.specs.Rise.{Risen}
use Rattle.in_order.specs.Walks.{Same}
use Rattle.in_order.specs.Whole.{PlainTo}
use Rattle.in_order.specs.declared.walk.Walk.{Walk}
use Rattle.listing.specs.declared.Size.{Size}

-- the lines from a place on up to another are plain, no key of them falls, and they add so many keys of so many bytes
pub record Passed (tree s : List ℕ) (last : Option (List ℕ)) (from count bytes : ℕ) (next : Option (List ℕ)) (to : ℕ) : Type 0 where
  pub onward : from + count ≤ to
  pub few : from + bytes ≤ to
  pub rises : Risen s last from → Risen s next to
  pub counts : count + length (to_come tree s next to) ≡ length (to_come tree s last from)
  pub sizes : bytes + length (key_lines (to_come tree s next to)) ≡ length (key_lines (to_come tree s last from))
  pub plain : PlainTo s from → PlainTo s to
  pub keys : length (keys_in (drop from s)) ≡ count + length (keys_in (drop to s))

-- the same of the lines that a walk passes
pub record Passes (old : Walk) (size : Size) (new : Walk) : Type 0 where
  pub same : Same old new
  pub lines : Passed old.functions.tree.now old.lines.now (text_of old.last) old.from size.count size.bytes (text_of new.last) new.from
