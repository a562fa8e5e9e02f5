-- Bytes of a part of a text that are no marks.
use Rattle.std.proofs.Common.{ℕ, ◌+◌, ◌-◌, ◌≤◌, ◌≡◌, List, length, get_or, take, drop, ap, ◌∙◌, subst, arith}
use Rattle.std.proofs.lemmas.List.{get_or-drop, get_or-take, length-drop, length-take}
use Rattle.bodies.specs.Quiet.{AllQuiet, Quiet}

module _ (s : List ℕ) (from to : ℕ) (l : from ≤ to) (h : to ≤ length s) where
  abbrev part : List ℕ
  part = take (to - from) (drop from s)

  part_length : length part ≡ to - from
  part_length = omega (arith, length-take (to - from) (drop from s), length-drop from s)

  pub quiet_part : (n : ℕ) → n ≤ length part → AllQuiet part 0 n → AllQuiet s from (from + n)
  quiet_part n r q i g k =
      let z : from + (i - from) ≡ i = omega arith in
      subst Quiet
      (get_or-take (to - from) (drop from s) (i - from) 0 (omega (arith, r, k, part_length)) ∙ get_or-drop from s (i - from) 0 ∙ ap (λ j. get_or s j 0) z)
      (q (i - from) (omega arith) (omega arith))

  pub quiet_all : AllQuiet part 0 (length part) → AllQuiet s from to
  quiet_all q i g k = quiet_part (length part) (omega arith) q i g (omega (arith, k, part_length))
