-- At the start nothing is open, and nothing was sought in vain.
use Rattle.std.proofs.Common.{refl}
use Rattle.source_rules.specs.TextScan.{functions}
use Rattle.source.specs.Cursors.{remaining, remaining_at}
use Rattle.source.specs.Steps.{ready_start}
use Rattle.source.proofs.Cursor.new.Goals as goal

pub invariant_of-result : goal.invariant_of-result
invariant_of-result c = record { ready = ready_start _ _ }

pub returns-clause-all : goal.returns-clause-all
unfolding remaining remaining_at functions
returns-clause-all c = refl

pub returns-clause-ready : goal.returns-clause-ready
returns-clause-ready c = ready_start _ _
