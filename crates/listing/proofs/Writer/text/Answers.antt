-- `listing::Writer::text` meets its contract: at each turn the rest of the text, put behind what is written, makes the whole.
use Rattle.std.proofs.Common.{arith, refl}
use Rattle.std.proofs.Math.ListN.{length-set}
use Rattle.listing.proofs.Turns.{text-end, text-turn}
use Rattle.listing.proofs.Writer.text.Goals as goal

pub loop-i-preserved : goal.loop-i-preserved
loop-i-preserved c =
    let a = c.args in
    let l = c.loop-i in
    let (same, place, size, rest) = l.invariant in
    (same, place, simp length-set size, rw place (text-turn a.self.now.at l.i l.self.out.now _ (omega arith) a.text.now _ (omega arith) refl rest))

pub returns : goal.returns
returns c =
    let a = c.args in
    let l = c.loop-i in
    let (same, place, size, rest) = l.invariant in
    record {
      same = same;
      fits = c.requires;
      place = omega arith;
      size = size;
      put = text-end a.self.now.at l.i l.self.out.now _ a.text.now (omega arith) rest;
    }
