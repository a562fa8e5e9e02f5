-- `listing::Writer::number` meets its contract: at each turn the digits of `rest`, put before what is written, make the whole.
use Rattle.std.proofs.Common.{◌+◌, ◌≡◌, length}
use Rattle.text_rules.specs.Bytes.{put_at}
use Rattle.text_rules.specs.Decimal.{decimal}
use Rattle.listing.proofs.Turns.{Left}
use Rattle.listing.proofs.Writer.number.Given as goal

abbrev pub invariant-loop-last : goal.invariant-loop-last
invariant-loop-last l =
    let w = l.initial.self in
    (l.self.out.ghost_name ≡ w.out.ghost_name) × (l.self.at ≡ w.at) × (length l.self.out.now ≡ length w.out.now) × (l.end ≡ w.at + length (decimal l.n))
    × Left w.at l.last l.rest l.self.out.now (put_at w.at (decimal l.n) w.out.now)
