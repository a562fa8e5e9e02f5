-- A byte that is counted if it is the one that is counted.
use Rattle.std.proofs.Common.{ℕ, suc, ◌+◌, ◌≤◌, ◌≡◌, Bool, true, false, eqb, ap, ◌∙◌, arith}
use Rattle.text_rules.specs.Bytes.{if◌then◌otherwise◌}
use Rattle.text_rules.specs.Search.{count_after}
use mir.Val.{bool_byte}

pub byte_most : (b : Bool) (n : ℕ) → n ≡ bool_byte b → n ≤ 1
byte_most true n e = omega (arith, e)
byte_most false n e = omega (arith, e)

one_more : (t : Bool) (n : ℕ) → n + bool_byte t ≡ (if t then suc n otherwise n)
one_more true n = omega arith
one_more false n = omega arith

pub counted : (x b n m : ℕ) → m ≡ bool_byte (eqb b x) → n + m ≡ count_after x b n
unfolding count_after
counted x b n m e = ap (λ k. n + k) e ∙ one_more (eqb b x) n
