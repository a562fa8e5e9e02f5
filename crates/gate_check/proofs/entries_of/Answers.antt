-- The places start as zeros, one for each function.
use Rattle.std.proofs.Common.{ap, arith, ◌∙◌, get_or}
use lib.ListN.{get_or-replicate}
use Rattle.gate_check.proofs.entries_of.Goals as goal

pub fill-requires : goal.fill-requires
fill-requires c k h =
    let fs = c.args.stale.functions in
    ap (λ s. get_or s k 0) c.requires ∙ get_or-replicate 8192 k 0 0 (omega (arith, h, fs.all, fs.stand.few))
