-- Laws of refusals that are asked for one behind the other.
use Rattle.std.specs.Prelude.{ℕ, zero, suc, ◌≡◌, refl}
use Rattle.text_rules.specs.Bytes.{◌or_else◌}

-- to ask for the same one twice
pub or_else_twice : (m n : ℕ) → (m or_else (m or_else n)) ≡ (m or_else n)
or_else_twice zero n = refl
or_else_twice (suc m) n = refl

-- in any grouping
pub or_else_lem : (a b c : ℕ) → (a or_else b) or_else c ≡ a or_else (b or_else c)
or_else_lem zero b c = refl
or_else_lem (suc a) b c = refl
