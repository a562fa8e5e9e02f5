-- What is noted of the bytes is told of the same bytes.
use Rattle.std.proofs.Common.{subst, sym}
use Rattle.chunks.specs.Table.{Summed}
use Rattle.parts.specs.Told.{NoteTells}
use Rattle.windows.specs.Window.{Noted}
use Rattle.signatures.proofs.lists.Lists.lent_again.Goals as goal

pub invariant_of-result : goal.invariant_of-result
invariant_of-result c =
    let l = c.args.self in
    let same = sym c.requires in
    record { noted = subst (λ s. Noted (NoteTells s) l.window) same l.noted; summed = subst (λ s. Summed s l.sums) same l.summed }
