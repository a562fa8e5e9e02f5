-- A character of white space does not leave the text, and a walk may jump over it.
use Rattle.std.specs.Prelude.{ℕ, zero, suc, ◌+◌, ◌≤◌, ◌≡◌, refl, Bool, true, false, ◌&&◌, ◌||◌, List, [], ◌∷◌, eqb, leb, length, drop, get_or}
use Rattle.std.proofs.Common.{ap, ◌∙◌, inl, inr, arith, eqb-true, leb-true}
use Rattle.text_rules.specs.Bytes.{if◌then◌otherwise◌}
use Rattle.text_rules.specs.BytesLaws.{and_left, and_right, or_cases}
use Rattle.text_rules.specs.Search.{opens}
use Rattle.text_rules.proofs.SearchLaws.{in_text, opens-inside}
use Rattle.text_rules.specs.Utf8.{◌to◌, within}
use Rattle.text_rules.specs.WhiteSpace.{is_wide_space, text_end, white_end, white_length}

-- a first byte of white space
first_white : (s : List ℕ) → (within (get_or s 0 0) (9 to 13) || eqb (get_or s 0 0) 32) ≡ true → 1 ≤ length s
unfolding within
first_white s e =
    elim (or_cases (leb 9 (get_or s 0 0) && leb (get_or s 0 0) 13) _ e) [
      | inl t ↦ in_text s 0 (omega (arith, leb-true 9 (get_or s 0 0) (and_left _ _ t)))
      | inr t ↦ in_text s 0 (omega (arith, eqb-true (get_or s 0 0) 32 t))
    ]

third-is : (s : List ℕ) (x y z : ℕ) → (opens x y s && eqb (get_or s 2 0) (suc z)) ≡ true → 3 ≤ length s
third-is s x y z e = in_text s 2 (omega (arith, eqb-true (get_or s 2 0) (suc z) (and_right (opens x y s) _ e)))

third-wide : (s : List ℕ) (x y : ℕ) → (opens x y s && is_wide_space (get_or s 2 0)) ≡ true → 3 ≤ length s
unfolding is_wide_space within
third-wide s x y e =
    let b = get_or s 2 0 in
    let w : (leb 0x80 b && leb b 0x8A || eqb b 0xA8 || eqb b 0xA9 || eqb b 0xAF) ≡ true = and_right (opens x y s) _ e in
    elim (or_cases (leb 0x80 b && leb b 0x8A || eqb b 0xA8 || eqb b 0xA9) _ w) [
      | inr t ↦ in_text s 2 (omega (arith, eqb-true b 0xAF t))
      | inl t ↦
          elim (or_cases (leb 0x80 b && leb b 0x8A || eqb b 0xA8) _ t) [
            | inr u ↦ in_text s 2 (omega (arith, eqb-true b 0xA9 u))
            | inl u ↦
                elim (or_cases (leb 0x80 b && leb b 0x8A) _ u) [
                  | inr v ↦ in_text s 2 (omega (arith, eqb-true b 0xA8 v))
                  | inl v ↦ in_text s 2 (omega (arith, leb-true 0x80 b (and_left _ _ v)))
                ]
          ]
    ]

pick : (t : Bool) (n m k : ℕ) → (t ≡ true → n ≤ k) → m ≤ k → (if t then n otherwise m) ≤ k
pick true n m k h l = h refl
pick false n m k h l = l

pub white_inside : (s : List ℕ) → white_length s ≤ length s
unfolding white_length
white_inside s =
    pick _ 1 _ (length s) (first_white s)
    (pick (opens 0xC2 0x85 s || opens 0xC2 0xA0 s) 2 _ (length s) (λ e. elim (or_cases (opens 0xC2 0x85 s) _ e) [ inl t ↦ opens-inside 0xC2 0x84 s t | inr t ↦ opens-inside 0xC2 0x9F s t ])
    (pick _ 3 _ (length s) (third-is s 0xE1 0x9A 0x7F)
    (pick _ 3 _ (length s) (third-wide s 0xE2 0x80)
    (pick _ 3 _ (length s) (third-is s 0xE2 0x81 0x9E)
    (pick _ 3 _ (length s) (third-is s 0xE3 0x80 0x7F) (omega arith))))))

-- a walk may jump over the bytes that it has to skip
pub white_skip_left : (at skip_left : ℕ) (s : List ℕ) → skip_left ≤ length s → white_end at skip_left s ≡ white_end (at + skip_left) 0 (drop skip_left s)
unfolding white_end
white_skip_left at zero s h = ap (λ n. white_end n 0 s) (omega arith)
white_skip_left at (suc skip_left) [] h = absurd (omega arith)
white_skip_left at (suc skip_left) (b ∷ s) h = white_skip_left (suc at) skip_left s (omega arith) ∙ ap (λ n. white_end n 0 (drop skip_left s)) (omega arith)

pub text_skip_left : (end at skip_left : ℕ) (s : List ℕ) → skip_left ≤ length s → text_end end at skip_left s ≡ text_end end (at + skip_left) 0 (drop skip_left s)
unfolding text_end
text_skip_left end at zero s h = ap (λ n. text_end end n 0 s) (omega arith)
text_skip_left end at (suc skip_left) [] h = absurd (omega arith)
text_skip_left end at (suc skip_left) (b ∷ s) h = text_skip_left end (suc at) skip_left s (omega arith) ∙ ap (λ n. text_end end n 0 (drop skip_left s)) (omega arith)
