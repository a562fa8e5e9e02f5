-- Behind an LF a line begins.
use Rattle.std.proofs.Common.{◌≡◌, ◌+◌, ◌-◌, get_or, ap, sym, ◌∙◌, arith}
use Rattle.blocks.proofs.Pieces.{byte_of_part}
use Rattle.lookup.proofs.Halving.{between}
use Rattle.lookup.proofs.line_start.Goals as goal

pub returns-in-Some : goal.returns-in-Some
returns-in-Some c =
    let a = c.args in
    let s = a.s.now in
    let i = c.in-Some.i in
    let e = c.in-Some.ensures in
    let place : a.least + i ≡ a.least + i + 1 - 1 = omega arith in
    let mark = ap (λ j. get_or s j 0) (sym place) ∙ sym (byte_of_part s a.least (a.at - a.least) i (omega (arith, e.0))) ∙ e.1 in
    (omega arith, omega (arith, e.0), between s (a.least + i + 1) (omega (arith, e.0)) mark a.least (omega arith))
