-- `chunks::stopped` meets its contract: inside angle brackets that are opened there nothing changes, and outside the level is noted.
use mathlib.Core.Path.{◌≡◌, refl}
use mathlib.Core.Logic.{inl, inr}
use native.Mathlib.Omega.{arith}
use Rattle.text_rules.specs.Classes.{brace_open, semicolon}
use Rattle.chunks.specs.Sums.{behind_inside, behind_stop}
use Rattle.chunks.proofs.stopped.Goals as goal

pub returns-then-c-gt0 : goal.returns-then-c-gt0
returns-then-c-gt0 c =
    let a = c.args.c in
    (behind_inside brace_open a (inl refl) c.if-c-gt0.true, behind_inside semicolon a (inr refl) c.if-c-gt0.true)

pub returns : goal.returns
returns c =
    let a = c.args.c in
    let z : a.ups ≡ 0 = omega (arith, c.if-c-gt0.false) in
    rw c.with_end.ensures (behind_stop brace_open a (inl refl) z c.requires, behind_stop semicolon a (inr refl) z c.requires)
