-- `parts::Pass::byte_behind` meets its contract: those that wait are sought on with `inner` more open inside them.
use Rattle.std.proofs.Common.{arith}
use Rattle.parts.specs.Filling.{passed_close, passed_met, passed_open, passed_other}
use Rattle.parts.proofs.Pass.byte_behind.Goals as goal

pub returns-in-40-clause-passed : goal.returns-in-40-clause-passed
returns-in-40-clause-passed c = passed_open c.args.at c.args.self.now c.requires.passed c.requires.inside c.in-40.is

pub returns-in-41-clause-passed : goal.returns-in-41-clause-passed
returns-in-41-clause-passed c = passed_close c.args.at c.args.self.now c.requires.passed c.requires.inside c.in-41.is c.if-self-gt0.true

pub returns-in-41-2-clause-passed : goal.returns-in-41-2-clause-passed
returns-in-41-2-clause-passed c = passed_met c.args.at c.args.self.now c.requires.passed c.requires.inside c.in-41.is (omega arith) _ c.close.ensures

pub returns-in_default-clause-passed : goal.returns-in_default-clause-passed
returns-in_default-clause-passed c = passed_other c.args.at c.args.self.now c.requires.passed c.requires.inside (omega arith) (omega arith)
