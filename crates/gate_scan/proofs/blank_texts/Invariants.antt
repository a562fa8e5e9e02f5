-- `gate_scan::blank_texts` meets its contract: blanking the texts that are left, into what work has become, is blanking all into what it was.
use Prim.Native.Nat.{◌≤◌, ◌+◌, ◌*◌, ◌-◌}
use mathlib.Core.Path.{◌≡◌}
use lib.ListN.{length}
use Rattle.gate_rules.specs.Records.{blank_into}
use Rattle.gate_rules.specs.Tree.{sources, sources_from}
use Rattle.gate_scan.proofs.blank_texts.Given as goal

abbrev pub invariant-loop-k : goal.invariant-loop-k
invariant-loop-k l =
    (l.k ≤ l.n) × (length l.work ≡ length l.initial.work) × (blank_into (sources_from l.tree (l.n - l.k) l.k (4 + 16 * l.k)) l.work ≡ blank_into (sources l.tree) l.initial.work)
