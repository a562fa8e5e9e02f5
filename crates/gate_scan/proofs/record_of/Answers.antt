-- `gate_scan::record_of` meets its contract: each number is the one told of the function.
use mathlib.Core.Path.{refl}
use Rattle.gate_scan.proofs.record_of.Goals as goal

pub returns : goal.returns
returns c = refl
