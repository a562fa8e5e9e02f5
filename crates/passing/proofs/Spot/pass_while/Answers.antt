-- What the second loop passes follows what the first has passed.
use Rattle.std.proofs.Common.{true}
use Rattle.passing.specs.Passing.{passed-line, passed-more}
use Rattle.passing.proofs.Spot.pass_while.Goals as goal

pub pass_bytes-requires-clause-line : goal.pass_bytes-requires-clause-line
pass_bytes-requires-clause-line g c =
    let a = c.args in
    passed-line (λ b. g.F.Fn.post a.test (b, tt) true) a.s.now a.self.at a.self.line a.to c.pass_blocks.result c.pass_blocks.ensures c.requires.line

pub returns : goal.returns
returns g c =
    let a = c.args in
    passed-more (λ b. g.F.Fn.post a.test (b, tt) true) a.s.now a.self.at a.self.line a.to c.pass_blocks.result c.pass_bytes.result c.pass_blocks.ensures c.pass_bytes.ensures
