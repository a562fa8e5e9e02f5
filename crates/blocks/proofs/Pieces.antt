-- Bytes that passed up to a place and some more, and a part of a text, as it is lent.
use Rattle.std.proofs.Common.{◌≡◌, ◌≢◌, ℕ, ◌+◌, ◌-◌, ◌≤◌, ◌<◌, List, length, get_or, take, drop, ap, subst, ◌∙◌, inl, inr, arith}
use Rattle.std.proofs.lemmas.List.{get_or-drop, get_or-take}
use borrow.Author.Tests.{eqb-true, eqb-false, ltb-true, ltb-false}
use Rattle.std.specs.Prelude.{eqb, ltb}
use Rattle.text_rules.specs.BytesLaws.{whether}
use Rattle.text_rules.specs.Search.{bytes_before}
use mir.Val.{bool_byte}
use Rattle.blocks.specs.Blocks.{Every, Lacks, passed, count_from, count-hit, count_miss}

-- each byte before a place passed, and each of the n next ones
pub passed_further : (P : ℕ → Type 0) (s : List ℕ) (from at n : ℕ) → ((k : ℕ) → from ≤ k → k < at → P (get_or s k 0)) → Every P s at n
    → (k : ℕ) → from ≤ k → k < at + n → P (get_or s k 0)
passed_further P s from at n before next k low high =
    elim (whether (ltb k at)) [
      | inl t ↦ before k low (ltb-true k at t)
      | inr t ↦
          let o : at ≤ k = ltb-false k at t in
          let j : at + (k - at) ≡ k = omega arith in
          subst (λ i. P (get_or s i 0)) j (next (k - at) (omega arith))
    ]

-- the byte of a part
pub byte_of_part : (s : List ℕ) (a n k : ℕ) → k < n → get_or (take n (drop a s)) k 0 ≡ get_or s (a + k) 0
byte_of_part s a n k h = get_or-take n (drop a s) k 0 h ∙ get_or-drop a s k 0

-- no byte of a part is x
pub passed_by : (s : List ℕ) (x from to : ℕ) → from ≤ to → to ≤ length s → ((k : ℕ) → from ≤ k → k < to → get_or s k 0 ≢ x)
    → from + bytes_before x (drop from s) ≡ to + bytes_before x (drop to s)
passed_by s x from to low high none =
    let e : from + (to - from) ≡ to = omega arith in
    let n : Lacks x s from (to - from) = λ i h. none (from + i) (omega arith) (omega arith) in
    omega (arith, passed s x from (to - from) (omega arith) n, ap (λ k. bytes_before x (drop k s)) e)

-- one byte more of a part is counted
pub count_next : (x : ℕ) (s : List ℕ) (at m k n : ℕ) → n ≡ count_from x s at k → k < m → n + bool_byte (eqb (get_or (take m (drop at s)) k 0) x) ≡ count_from x s at (k + 1)
count_next x s at m k n e h =
    let b : get_or (take m (drop at s)) k 0 ≡ get_or s (at + k) 0 = byte_of_part s at m k h in
    rw b (
    elim (whether (eqb (get_or s (at + k) 0) x)) [
      | inl t ↦ rw t (omega (arith, count-hit x s at k (eqb-true (get_or s (at + k) 0) x t)))
      | inr t ↦ rw t (omega (arith, count_miss x s at k (eqb-false (get_or s (at + k) 0) x t)))
    ])
