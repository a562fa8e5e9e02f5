-- The turns of the writers' loops. `whole` is what is put in all: at each turn it is what stands in the output with the rest put behind it.
use Prim.Native.Nat.{ℕ, zero, suc, ◌+◌, ◌-◌, ◌*◌, ◌/◌, ◌%◌, ◌^◌, ◌≤◌, ◌<◌, max}
use mathlib.Core.Path.{◌≡◌, ap, ap₂, sym, ◌∙◌}
use mathlib.Core.List.{List, [], ◌∷◌}
use mathlib.Core.Logic.{inl, inr}
use native.Mathlib.Omega.{arith}
use borrow.Author.Tests.{ltb-false, ltb-true}
use lib.Dec.{eqb, ltb}
use Rattle.std.proofs.Math.Nat.{pow-succ'}
use lib.ListN.{length, drop, get_or, set, drop_of_length-le}
use Rattle.text_rules.specs.Bytes.{if◌then◌otherwise◌, put_at}
use Rattle.text_rules.specs.BytesLaws.{whether}
use Rattle.text_rules.specs.Classes.{space, tab}
use Rattle.text_rules.specs.Decimal.{decimal}
use Rattle.text_rules.proofs.DecimalLaws.{decimal-digits}
use Rattle.text_rules.proofs.DecimalSteps.{decimal-more, decimal-one, length_more, length-one, length_some}
use Rattle.text_rules.proofs.ScanLaws.{split}
use Rattle.text_rules.proofs.WriterLaws.{put_first, put_last, put-none}
use Rattle.gate_rules.specs.Check.{spaced}

-- nothing is written yet
pub begin : (at : ℕ) (xs s : List ℕ) → put_at (at + 0) xs s ≡ put_at at xs s
begin at xs s = let place : at + 0 ≡ at = omega arith in ap (λ n. put_at n xs s) place

module _ (at i : ℕ) (out whole : List ℕ) (inside : at + i < length out) where
  -- one byte more
  turn : (b : ℕ) (rest xs : List ℕ) → xs ≡ b ∷ rest → put_at (at + i) xs out ≡ whole → put_at (at + (i + 1)) rest (set out (at + i) b) ≡ whole
  turn b rest xs e h =
      let place : at + (i + 1) ≡ at + i + 1 = omega arith in
      ap (λ n. put_at n rest (set out (at + i) b)) place ∙ put_first (at + i) b rest out inside ∙ ap (λ l. put_at (at + i) l out) (sym e) ∙ h

  pub text-turn : (text : List ℕ) (b : ℕ) → i < length text → b ≡ get_or text i 0
      → put_at (at + i) (drop i text) out ≡ whole → put_at (at + (i + 1)) (drop (i + 1) text) (set out (at + i) b) ≡ whole
  text-turn text b h e = turn b (drop (i + 1) text) (drop i text) (split text i h ∙ ap (λ n. n ∷ drop (i + 1) text) (sym e))

  pub spaced-turn : (key : List ℕ) (b : ℕ) → i < length key → b ≡ (if eqb (get_or key i 0) tab then space otherwise get_or key i 0)
      → put_at (at + i) (spaced (drop i key)) out ≡ whole → put_at (at + (i + 1)) (spaced (drop (i + 1) key)) (set out (at + i) b) ≡ whole
  unfolding spaced
  spaced-turn key b h e = turn b (spaced (drop (i + 1) key)) (spaced (drop i key)) (ap spaced (split key i h) ∙ ap (λ n. n ∷ spaced (drop (i + 1) key)) (sym e))

module _ (at i : ℕ) (out whole : List ℕ) where
  pub text-end : (text : List ℕ) → length text ≤ i → put_at (at + i) (drop i text) out ≡ whole → out ≡ whole
  text-end text h e = sym (put-none (at + i) out) ∙ ap (λ l. put_at (at + i) l out) (sym (drop_of_length-le text h)) ∙ e

  pub spaced-end : (key : List ℕ) → length key ≤ i → put_at (at + i) (spaced (drop i key)) out ≡ whole → out ≡ whole
  unfolding spaced
  spaced-end key h e = sym (put-none (at + i) out) ∙ ap (λ l. put_at (at + i) (spaced l) out) (sym (drop_of_length-le key h)) ∙ e

-- digits are stored from the last to the first: what is still to be put stands before `last`, where its own last digit goes
module _ (at rest last : ℕ) (out whole : List ℕ) (inside : last < length out) (place : last + 1 ≡ at + length (decimal rest)) where
  pub digit_turn : 10 ≤ rest → put_at at (decimal rest) out ≡ whole → put_at at (decimal (rest / 10)) (set out last (48 + rest % 10)) ≡ whole
  digit_turn h e =
      let behind : last ≡ at + length (decimal (rest / 10)) = omega (arith, length_more rest h) in
      ap (λ n. put_at at (decimal (rest / 10)) (set out n (48 + rest % 10))) behind
      ∙ put_last at (48 + rest % 10) (decimal (rest / 10)) out (omega arith)
      ∙ ap (λ l. put_at at l out) (sym (decimal-more rest h))
      ∙ e

  pub digit_end : rest < 10 → put_at at (decimal rest) out ≡ whole → set out last (48 + rest) ≡ whole
  digit_end h e =
      let first : last ≡ at = omega (arith, length-one rest h) in
      sym (put-none (last + 1) (set out last (48 + rest)))
      ∙ put_first last (48 + rest) [] out inside
      ∙ ap₂ (λ n l. put_at n l out) first (sym (decimal-one rest h))
      ∙ e

-- before the place `last` the digits of `rest` are still to be put, or none
pub data Left (at last rest : ℕ) (out whole : List ℕ) : Type 0 where
  some_left : last ≡ at + length (decimal rest) → put_at at (decimal rest) out ≡ whole → Left at last rest out whole
  none_left : last ≡ at → out ≡ whole → Left at last rest out whole

pub left-turn : (at last rest : ℕ) (out whole : List ℕ) → at < last → last ≤ length out → Left at last rest out whole → Left at (last - 1) (rest / 10) (set out (last - 1) (48 + rest % 10)) whole
left-turn at last rest out whole h k (some_left p e) =
    let place : last - 1 + 1 ≡ at + length (decimal rest) = omega (arith, p, h) in
    elim (whether (ltb rest 10)) [
      | inl l ↦
          let small = ltb-true rest 10 l in
          let same : rest ≡ rest % 10 = omega (arith, small) in
          none_left (omega (arith, p, length-one rest small)) (ap (λ n. set out (last - 1) (48 + n)) (sym same) ∙ digit_end at rest (last - 1) out whole (omega (arith, h, k)) place small e)
      | inr l ↦
          let large = ltb-false rest 10 l in
          some_left (omega (arith, p, length_more rest large)) (digit_turn at rest (last - 1) out whole (omega (arith, h, k)) place large e)
    ]
left-turn at last rest out whole h k (none_left p e) = absurd (omega (arith, p, h))

pub left-end : (at last rest : ℕ) (out whole : List ℕ) → last ≤ at → Left at last rest out whole → out ≡ whole
left-end at last rest out whole h (some_left p e) = absurd (omega (arith, p, h, length_some rest))
left-end at last rest out whole h (none_left p e) = e

pow-pos : (k : ℕ) → 0 < 10 ^ k
pow-pos zero = omega arith
pow-pos (suc k) = omega (arith, pow-pos k, pow-succ' 10 k)

-- a number has one digit more than its logarithm
pub digits-least : (k n : ℕ) → 10 ^ k ≤ n → k + 1 ≤ length (decimal n)
digits-least zero n h = omega (arith, length_some n)
digits-least (suc k) n h =
    let more : 10 * 10 ^ k ≤ n = omega (arith, h, pow-succ' 10 k) in
    let one : 0 < 10 ^ k = pow-pos k in
    omega (arith, digits-least k (n / 10) (omega (arith, more)), length_more n (omega (arith, more, one)))

pub digits-exact : (k n m : ℕ) → m ≡ max n 1 → 10 ^ k ≤ m → m < 10 * 10 ^ k → k + 1 ≡ length (decimal n)
digits-exact zero zero m e l h = omega (arith, length-one 0 (omega arith))
digits-exact (suc k) zero m e l h =
    let more : 10 * 10 ^ k ≤ m = omega (arith, l, pow-succ' 10 k) in
    let some : 0 < 10 ^ k = pow-pos k in
    absurd (omega (arith, e, more, some))
digits-exact k (suc n) m e l h =
    let same : m ≡ suc n = omega (arith, e) in
    let low : k + 1 ≤ length (decimal (suc n)) = digits-least k (suc n) (omega (arith, l, same)) in
    let high : length (decimal (suc n)) ≤ suc k = decimal-digits k (suc n) (omega (arith, h, same, pow-succ' 10 k)) in
    omega (arith, low, high)
