-- `gate_update::update` meets its contract: it is the update by the gate's own limits.
use Rattle.gate_update.specs.Updates.{updates_by}
use Rattle.gate_update.proofs.update.Goals as goal

pub returns : goal.returns
returns c =
    let a = c.args in
    updates_by _ _ _ a.tree.now a.work.now a.lent.now a.output.now _ _ _ c.gate_limits.ensures c.update_with.ensures
