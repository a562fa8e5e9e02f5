-- `blanking::plain_end` meets its contract: behind each byte that it passes stand two that are bare.
use native.Mathlib.Omega.{arith}
use Rattle.blanking.proofs.Plain.{bare_tokens}
use Rattle.blanking.proofs.plain_end.Goals as goal

pub returns : goal.returns
returns c = let a = c.args in
    (omega arith, omega arith, bare_tokens a.s.now a.from _ c.bare_end-to.result (omega arith) c.bare_end-to.ensures.1 c.bare_end-to.ensures.2)
