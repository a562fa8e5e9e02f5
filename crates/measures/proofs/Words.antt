-- A piece that decides is counted.
use Prim.Native.Nat.{ℕ, suc, ◌+◌}
use Rattle.std.specs.Prelude.{◌≡◌, Bool, true, false}
use mir.Val.{bool_byte}
use Rattle.std.proofs.Common.{◌≤◌, add-one, add-zero, arith}
use Rattle.text_rules.specs.Bytes.{if◌then◌otherwise◌}

-- one more where a test passes
pub counted : (n : ℕ) (test : Bool) → n + bool_byte test ≡ (if test then suc n otherwise n)
counted n true = add-one n
counted n false = add-zero n

pub one_most : (test : Bool) → bool_byte test ≤ 1
one_most true = omega arith
one_most false = omega arith
