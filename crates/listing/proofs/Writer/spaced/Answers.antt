-- `listing::Writer::spaced` meets its contract: at each turn the rest of the key, put behind what is written, makes the whole.
use Rattle.std.proofs.Common.{arith}
use Rattle.std.proofs.Math.ListN.{length-set}
use Rattle.listing.specs.Texts.{spaced-length}
use Rattle.listing.proofs.Turns.{spaced-end, spaced-turn}
use Rattle.listing.proofs.Writer.spaced.Goals as goal

pub bounds-self-self : goal.bounds-self-self
bounds-self-self c = omega (arith, spaced-length c.args.key.now)

pub loop-i-preserved : goal.loop-i-preserved
loop-i-preserved c =
    let a = c.args in
    let l = c.loop-i in
    let (same, place, size, rest) = l.invariant in
    let key = spaced-length a.key.now in
    (same, place, simp length-set size, rw place (spaced-turn a.self.now.at l.i l.self.out.now _ (omega (arith, key)) a.key.now _ (omega arith) c.untabbed.ensures rest))

pub returns : goal.returns
returns c =
    let a = c.args in
    let l = c.loop-i in
    let (same, place, size, rest) = l.invariant in
    let key = spaced-length a.key.now in
    record {
      same = same;
      fits = c.requires;
      place = omega (arith, key);
      size = size;
      put = spaced-end a.self.now.at l.i l.self.out.now _ a.key.now (omega arith) rest;
    }
