-- Each byte that is passed is none of the four marks.
use Rattle.std.proofs.Common.{arith, get_or}
use Rattle.std.proofs.lemmas.Bool.Decides.{nat_tests}
use Rattle.blanking.proofs.bare_end.Goals as goal

pub returns : goal.returns
returns c =
    let w = c.past_while.ensures in (
      w.low,
      w.high,
      λ i k l.
          let p = w.passed i k l in
          let b = get_or c.args.s.now i 0 in
          record {
            no_slash = grind (arith, nat_tests);
            no-quote = grind (arith, nat_tests);
            no-apostrophe = grind (arith, nat_tests);
            no-hash = grind (arith, nat_tests);
          },
    )
