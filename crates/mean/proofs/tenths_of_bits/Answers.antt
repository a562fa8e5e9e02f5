-- `mean::tenths_of_bits` meets its contract, by the laws of a double's fields.
use Prim.Native.Nat.{ℕ, ◌+◌, ◌*◌, ◌%◌, ◌^◌, ◌<◌}
use mathlib.Core.Path.{ap, sym, subst, ◌∙◌}
use native.Mathlib.Omega.{arith}
use lib.Pow.{pow_pos, pow-lt}
use lib.Ieee.Nearest.{closest}
use Rattle.mean.specs.Laws.{bits_small, bits_large}
use Rattle.mean.proofs.tenths_of_bits.Goals as goal

pub returns-then-x-lt1018 : goal.returns-then-x-lt1018
returns-then-x-lt1018 c = sym (bits_small c.args.b c.if-x-lt1018.true)

pub nearest_of-requires : goal.nearest_of-requires
nearest_of-requires c =
    let e = c.pow2-p.ensures in
    (subst (λ (z : ℕ). 0 < z) (sym e) (pow_pos _), subst (λ (z : ℕ). z < 2 ^ 62) (sym e) (pow-lt {j = 62} (omega arith)), omega arith)

pub returns : goal.returns
returns c =
    c.nearest_of.ensures
    ∙ ap (closest ((2 ^ 52 + c.args.b % 2 ^ 52) * 10)) c.pow2-p.ensures
    ∙ sym (bits_large c.args.b c.requires c.if-x-lt1018.false)
