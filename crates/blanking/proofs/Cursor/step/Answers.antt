-- `blanking::Cursor::step` meets its contract: a token is pending as soon as it is known, and a byte that begins none is copied.
use mathlib.Core.Path.{◌∙◌, ap}
use Prim.Native.Nat.{ℕ}
use native.Mathlib.Omega.{arith}
use Rattle.blanking.specs.Bare.{finished}
use Rattle.blanking.proofs.Whole.{begun, copied}
use Rattle.blanking.proofs.Cursor.step.Goals as goal

pub returns-in-Some : goal.returns-in-Some
returns-in-Some c = let a = c.args in
    let s = a.text.now in
    let i = a.self.at in
    let k = c.in-Some.ensures in (
      omega (arith, k.some, k.place),
      omega (arith, k.inside),
      ap (λ (k : ℕ). finished s c.fill.new.output k k) c.fill.ensures.0 ∙ c.fill.ensures.1 ∙ begun s a.output.now i c.in-Some.token.at k.place,
    )

pub returns-in-None : goal.returns-in-None
returns-in-None c = let a = c.args in
    (omega arith, omega arith, copied a.text.now a.output.now a.self.at (omega arith) (omega arith) c.in-None.ensures)
