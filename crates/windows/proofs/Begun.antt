-- A part begins with nothing noted.
use Rattle.std.proofs.Common.{ℕ, zero, suc, ◌-◌, ◌≡◌, ◌∙◌, Bool, true, false, ap, cond, ltb, refl, get_or}
use Rattle.std.proofs.Math.ListN.{replicate}
use Rattle.windows.specs.Window.{noted_in}
use Rattle.windows.specs.declared.Note.TheVariants.{Nothing}
use Rattle.windows.specs.declared.Stage.TheVariants.{Filled}

-- a list of equal elements has no other
all_equal : {A : Type 0} (n k : ℕ) (x : A) → get_or (replicate n x) k x ≡ x
all_equal zero k x = refl
all_equal (suc n) zero x = refl
all_equal (suc n) (suc k) x = all_equal n k x

either : {A : Type 0} (b : Bool) (x : A) → cond b x x ≡ x
either true x = refl
either false x = refl

pub begun_nothing : (n from used at : ℕ) → noted_in (Filled from used) (replicate n Nothing) at ≡ Nothing
begun_nothing n from used at = ap (cond (ltb at from) Nothing) (all_equal n (at - from) Nothing) ∙ either (ltb at from) Nothing
