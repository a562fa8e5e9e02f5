-- The lines of the stale keys written batch by batch, one batch behind the other.
use Rattle.std.proofs.Common.{ℕ, ◌+◌, ◌≤◌, ◌<◌, ◌≡◌, List, [], ap, length, take, drop, get_or, arith, length-append, drop_of_length-le}
use Rattle.std.proofs.Math.Option.{Option, none, some}
use Rattle.text_rules.specs.Bytes.{kept}
use Rattle.gate_rules.specs.Baseline.{Entry}
use Rattle.gate_rules.specs.Check.{stale}
use Rattle.gate_rules.specs.Functions.{Fun}
use Rattle.listing.specs.Writes.{Remains, Room, Writes, remains_all, remains_next, remains_none, remains_room}
use Rattle.listing.specs.declared.Writer.{Writer}
use Rattle.listed_keys.specs.KeyLines.{key_lines, none_lines}
use Rattle.in_order.specs.StaleKeys.{behind}
use Rattle.batches.proofs.Taking.{Reached, all-taken, bytes_more, reached-more, reached-none, rest-together}

module _ (es : List Entry) (fs : List Fun) (old : Writer) where
  -- the first keys were taken and written, and the others remain
  pub record Batches (w : Writer) (last : Option (List ℕ)) : Type 0 where
    pub count : ℕ
    pub reached : Reached es fs last count
    pub rest : Remains (key_lines (drop count (stale es fs))) (key_lines (stale es fs)) old w

  pub batches_none : Room (key_lines (stale es fs)) old → Batches old none
  batches_none h = record { count = 0; reached = reached-none es fs; rest = remains_all h }

  module _ (w : Writer) (last : Option (List ℕ)) (b : Batches w last) (ks : List (List ℕ)) (p : ks ≡ take 8192 (kept (behind last) (stale es fs))) where
    -- there is room for the batch
    pub batch_room : Room (key_lines ks) w
    batch_room = remains_room (key_lines ks) (key_lines (drop (b.count + length ks) (stale es fs))) b.rest (rest-together es fs last b.count b.reached ks p)

    module _ (new : Writer) (f : Writes (key_lines ks) w new) where
      left : Remains (key_lines (drop (b.count + length ks) (stale es fs))) (key_lines (stale es fs)) old new
      left = remains_next (key_lines (drop (b.count + length ks) (stale es fs))) b.rest (rest-together es fs last b.count b.reached ks p) f

      -- it was the last one
      pub batches_all : length ks < 8192 → Writes (key_lines (stale es fs)) old new
      batches_all h =
          let n = (all-taken es fs last b.count b.reached ks p h).1 in
          let none : length (stale es fs) ≤ b.count + length ks = omega (arith, n) in
          remains_none left (none_lines (drop (b.count + length ks) (stale es fs)) (drop_of_length-le (stale es fs) none))

      -- or others follow, and fewer bytes are left
      pub batches_more : 8192 ≤ length ks → (next : List ℕ) → next ≡ get_or ks 8191 [] → Batches new (some next)
      batches_more h next e = record { count = b.count + length ks; reached = reached-more es fs last b.count b.reached ks p h next e; rest = left }

      pub batches_further : 8192 ≤ length ks → (w.at < new.at) × (new.at ≤ old.at + length (key_lines (stale es fs)))
      batches_further h =
          let some = bytes_more es fs last b.count b.reached ks p h in
          let r = left in
          (omega (arith, f.place, some), omega (arith, r.written.place, ap_length r))
        where
          ap_length : (r : Remains (key_lines (drop (b.count + length ks) (stale es fs))) (key_lines (stale es fs)) old new) → length r.done ≤ length (key_lines (stale es fs))
          ap_length r = omega (arith, ap length r.all, length-append r.done (key_lines (drop (b.count + length ks) (stale es fs))))
