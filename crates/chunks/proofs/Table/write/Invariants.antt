-- `chunks::Table::write` meets its contract: at each turn the sums of the chunks before are written.
use Rattle.chunks.specs.Table.{Written}
use Rattle.chunks.proofs.Table.write.Given as goal

abbrev pub invariant-loop-j : goal.invariant-loop-j
invariant-loop-j l = Written l.s l.self.sums l.j
