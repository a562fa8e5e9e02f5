-- A key of which it is told whether it may be taken.
use Prim.Native.Nat.{ℕ}
use mathlib.Core.Path.{◌≡◌, ap, sym, ◌∙◌}
use mathlib.Core.Bool.{Bool, true, false}
use mathlib.Core.Logic.{inl, inr}
use mathlib.Core.List.{List}
use mathlib.Core.Option.{Option}
use native.Mathlib.Omega.{arith}
use lib.ListN.{take}
use lib.Seq.{take-take}
use Rattle.text_rules.specs.Bytes.{if◌then◌otherwise◌}
use Rattle.text_rules.specs.BytesLaws.{whether}
use Rattle.batches.specs.Gathered.{fits, one_more}
use Rattle.sorted_keys.specs.Insert.{insert}

module _ (live : List (List ℕ)) (last : Option (List ℕ)) (k : List ℕ) (ks : List (List ℕ)) where
  by_test_lem : (t : Bool) → fits live last k ≡ t → one_more live last k ks ≡ (if t then insert k ks otherwise ks)
  by_test_lem t e = ap (λ u. if u then insert k ks otherwise ks) e

  -- it may not
  pub passed : fits live last k ≡ false → take 8192 ks ≡ take 8192 (one_more live last k ks)
  passed e = ap (take 8192) (sym (by_test_lem false e))

  -- it may be taken, and is put in
  pub taken : fits live last k ≡ true → (new : List (List ℕ)) → new ≡ take 8192 (insert k ks) → take 8192 new ≡ take 8192 (one_more live last k ks)
  taken e new p = ap (take 8192) p ∙ take-take 8192 8192 (insert k ks) (omega arith) ∙ sym (ap (take 8192) (by_test_lem true e))

  -- it has no place
  pub no_place : take 8192 (insert k ks) ≡ ks → take 8192 ks ≡ take 8192 (one_more live last k ks)
  no_place h = elim (whether (fits live last k)) [ inl t ↦ taken t ks (sym h) | inr t ↦ passed t ]
