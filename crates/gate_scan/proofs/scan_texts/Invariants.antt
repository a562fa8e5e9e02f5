-- `gate_scan::scan_texts` meets its contract: the records of the files that are left, put into what the buffer has become, are those of all files
-- put into what it was.
use Prim.Native.Nat.{ℕ, ◌+◌, ◌*◌, ◌-◌, ◌≤◌}
use mathlib.Core.Path.{◌≡◌}
use mathlib.Core.List.{List, map}
use lib.ListN.{length}
use Rattle.gate_rules.specs.RecordForms.{put_records}
use Rattle.gate_rules.specs.Records.{record_bytes, records, records_of_files}
use Rattle.gate_rules.specs.Tree.{sources_from}
use Rattle.gate_scan.proofs.scan_texts.Given as goal

abbrev pub rest : List ℕ → ℕ → ℕ → List (List ℕ)
rest tree n k = records_of_files (sources_from tree (n - k) k (4 + 16 * k))

abbrev pub invariant-loop-file : goal.invariant-loop-file
invariant-loop-file l =
    (l.file ≤ l.n)
    × (length l.lent ≡ length l.initial.lent)
    × (l.done ≤ l.file * 16777216)
    × (l.done + length (rest l.tree l.n l.file) ≡ length (records l.tree))
    × (put_records l.done (map record_bytes (rest l.tree l.n l.file)) l.lent ≡ put_records 0 (map record_bytes (records l.tree)) l.initial.lent)
