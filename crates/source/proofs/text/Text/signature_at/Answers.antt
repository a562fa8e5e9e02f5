-- Behind the last brace of either kind no name is a function's.
use Rattle.std.proofs.Common.{arith}
use Rattle.source.specs.Cursors.{Barren}
use Rattle.source.proofs.text.Text.signature_at.Goals as goal

pub returns-then-is_behind_braces-clause-signed : goal.returns-then-is_behind_braces-clause-signed
unfolding Barren
returns-then-is_behind_braces-clause-signed c =
    let gone = c.is_behind_braces.ensures c.if-is_behind_braces.true in
    record {
      none_here = λ from. gone from c.args.to (omega arith);
      no_function = λ from x h k. gone from x h;
    }
