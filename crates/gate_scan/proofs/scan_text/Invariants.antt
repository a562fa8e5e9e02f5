-- `gate_scan::scan_text` meets its contract: the records that are left, put into what the buffer has become, are all of them put into what it was.
use Prim.Native.Nat.{◌+◌}
use mathlib.Core.Path.{◌≡◌}
use lib.ListN.{length}
use Rattle.source_rules.specs.TextScan.{functions}
use Rattle.gate_rules.specs.RecordForms.{put_records}
use Rattle.source.specs.Bytes.{bytes_of}
use Rattle.source.specs.Cursors.{remaining}
use Rattle.source.specs.View.{state_of}
use Rattle.gate_scan.specs.Told.{records_for}
use Rattle.gate_scan.proofs.scan_text.Given as goal

abbrev pub invariant-loop-f : goal.invariant-loop-f
invariant-loop-f l =
    record {
      can : (goal.iterator-loop-f).can_next l.f-iterator;
      finite : (goal.iterator-loop-f).is_finite l.f-iterator;
      text : bytes_of l.f-iterator.text ≡ l.s;
      long : length l.lent ≡ length l.initial.lent;
      counted : l.n + length (remaining l.s (state_of l.f-iterator)) ≡ l.done + length (functions l.s);
      put : put_records l.n (records_for l.number l.place (remaining l.s (state_of l.f-iterator))) l.lent ≡ put_records l.done (records_for l.number l.place (functions l.s)) l.initial.lent;
    }
