-- `live::is_live` meets its contract: no function outside of the range has the key.
use mathlib.Core.Path.{refl}
use Rattle.gate_rules.specs.Gate.{gate}
use Rattle.gate_rules.specs.Scan.{functions_of}
use Rattle.live.specs.Live.{decided}
use Rattle.live.proofs.is_live.Goals as goal

pub returns : goal.returns
returns c =
    let k = c.args.bytes.now in
    decided k (functions_of gate c.args.fs.tree.now) c.range.result.from c.range.result.to (c.range.ensures.others k refl) c.any_has.result c.any_has.ensures.live c.any_has.ensures.dead
