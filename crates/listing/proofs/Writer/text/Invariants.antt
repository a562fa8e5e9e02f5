-- `listing::Writer::text` meets its contract: at each turn what stands in the output, with the rest put behind it, is the whole.
use Rattle.std.proofs.Common.{◌+◌, ◌≡◌, drop, length}
use Rattle.text_rules.specs.Bytes.{put_at}
use Rattle.listing.proofs.Writer.text.Given as goal

abbrev pub invariant-loop-i : goal.invariant-loop-i
invariant-loop-i l =
    let w = l.initial.self in
    (l.self.out.ghost_name ≡ w.out.ghost_name) × (l.self.at ≡ w.at) × (length l.self.out.now ≡ length w.out.now)
    × (put_at (w.at + l.i) (drop l.i l.text) l.self.out.now ≡ put_at w.at l.text w.out.now)
