-- `listing::Writer::number` meets its contract: at each turn the digits of `rest`, put before what is written, make the whole.
use Rattle.std.proofs.Common.{arith}
use Rattle.std.proofs.Math.ListN.{length-set}
use Rattle.listing.proofs.Turns.{left-end, left-turn}
use Rattle.listing.proofs.Writer.number.Goals as goal

pub loop-last-preserved : goal.loop-last-preserved
loop-last-preserved c =
    let l = c.loop-last in
    let (same, place, size, end, left) = l.invariant in
    (same, place, simp length-set size, end, left-turn c.args.self.now.at l.last l.rest l.self.out.now _ (omega arith) (omega arith) left)

pub returns : goal.returns
returns c =
    let l = c.loop-last in
    let (same, place, size, end, left) = l.invariant in
    record {
      same = same;
      fits = omega arith;
      place = omega arith;
      size = size;
      put = left-end c.args.self.now.at l.last l.rest l.self.out.now _ (omega arith) left;
    }
