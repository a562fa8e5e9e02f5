-- What is left of the word against the head of the rest is the word against the head of the whole.
use Prim.Native.Nat.{◌≤◌}
use mathlib.Core.Path.{◌≡◌}
use lib.ListN.{drop, length}
use Rattle.text_rules.specs.Search.{starts_with}
use Rattle.params.specs.Head.{head}
use Rattle.params.proofs.head_begins.Given as goal

abbrev pub invariant-loop-b : goal.invariant-loop-b
invariant-loop-b l = record {
  in_word : l.matched ≤ length l.word;
  left : starts_with (drop l.matched l.word) (head (drop l.b-index l.s)) ≡ starts_with l.word (head l.s);
}
