-- Up to the tab each byte that is written is the first of what is left of the field.
use Rattle.std.proofs.Common.{◌<◌, arith, drop, length}
use Rattle.std.proofs.Math.ListN.{length-set}
use Rattle.text_rules.specs.Classes.{tab}
use Rattle.text_rules.proofs.ScanLaws.{bytes_before-more, bytes_before-stop}
use Rattle.listed_keys.specs.Wholes.{field_end, field_length, field_turn}
use Rattle.listed_keys.proofs.write_field.Goals as goal

pub bounds-w-at : goal.bounds-w-at
bounds-w-at c =
    let s = c.args.lines.now in
    let l = c.loop-place in
    let (tabs, same, size, left, put) = l.invariant in
    let inside : l.place < length s = omega (arith, tabs, c.requires.inside) in
    let more = bytes_before-more s l.place inside tab c.loop-place-test.true in
    omega (arith, size, left, more, c.requires.room, field_length (drop c.args.from s))

pub loop-place-preserved : goal.loop-place-preserved
loop-place-preserved c =
    let s = c.args.lines.now in
    let l = c.loop-place in
    let (tabs, same, size, left, put) = l.invariant in
    let inside : l.place < length s = omega (arith, tabs, c.requires.inside) in
    let more = bytes_before-more s l.place inside tab c.loop-place-test.true in
    let room : l.at < length l.w.out.now = omega (arith, size, left, more, c.requires.room, field_length (drop c.args.from s)) in (
      omega (arith, tabs, more),
      same,
      simp length-set size,
      omega (arith, left, more),
      field_turn s l.place l.at l.w.out.now _ inside c.loop-place-test.true room put,
    )

pub returns-clause-tab : goal.returns-clause-tab
returns-clause-tab c =
    let s = c.args.lines.now in
    let l = c.loop-place in
    let inside : l.place < length s = omega (arith, l.invariant.0, c.requires.inside) in
    let stop = bytes_before-stop s l.place inside tab c.loop-place-test.false in
    omega (arith, l.invariant.0, stop)

pub returns-clause-written : goal.returns-clause-written
returns-clause-written c =
    let s = c.args.lines.now in
    let l = c.loop-place in
    let (tabs, same, size, left, put) = l.invariant in
    let inside : l.place < length s = omega (arith, tabs, c.requires.inside) in
    let stop = bytes_before-stop s l.place inside tab c.loop-place-test.false in
    record {
      same = same;
      fits = c.requires.room;
      place = omega (arith, left, stop, field_length (drop c.args.from s));
      size = size;
      put = field_end s l.place l.at l.w.out.now _ stop put;
    }
