-- The lines passed so far add what was counted, and each line behind them adds its key.
use Rattle.in_order.proofs.PassedLines.{passes-next}
use Rattle.in_order.proofs.walk.Walk.run.Goals as goal

pub loop-line-preserved : goal.loop-line-preserved
loop-line-preserved c =
    passes-next _ c.loop-line.walk c.follow.new.self c.in-Some.line c.loop-line.size c.plus-size.result c.loop-line.invariant c.in-Some.ensures c.follow.ensures
    c.plus-size.ensures.count c.plus-size.ensures.bytes
