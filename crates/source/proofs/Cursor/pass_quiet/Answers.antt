-- Only bytes are passed at which nothing begins.
use Rattle.std.proofs.Common.{refl, subst}
use Rattle.source.specs.Cursors.{Quieter}
use Rattle.source.specs.View.{state_of}
use Rattle.source.proofs.Cursor.pass_quiet.Goals as goal

pub invariant_of-self : goal.invariant_of-self
invariant_of-self c =
    let i = c.args.self.now in
    let q = subst (λ s. Quieter s i.at i.line i.span_end i.resume c.quiet_end-q.result) c.bytes-s.ensures c.quiet_end-q.ensures in
    record { ready = (q.passes (state_of i) refl refl refl refl i.ready).0 }
