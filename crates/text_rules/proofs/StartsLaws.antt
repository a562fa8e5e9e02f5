-- A text compared with a word at a place, one byte a step: what a loop over both cites.
use Rattle.std.specs.Prelude.{ℕ, ◌+◌, ◌≤◌, ◌<◌, ◌≡◌, ◌≢◌, true, false, List, [], ◌∷◌, eqb, length, drop, get_or}
use Rattle.std.proofs.Common.{arith, drop_of_length-le}
use Rattle.text_rules.specs.BytesLaws.{and_right}
use Rattle.text_rules.proofs.ScanLaws.{split}
use Rattle.text_rules.specs.Search.{starts_with}
use Rattle.text_rules.proofs.TextSteps.{begins-end, begins-more, begins-none, begins-stop}

-- the bytes of a word from a place on, against those of a text
module _ (word s : List ℕ) (i at : ℕ) where
  pub starts_more : i < length word → at < length s → get_or s at 0 ≡ get_or word i 0 → starts_with (drop i word) (drop at s) ≡ starts_with (drop (i + 1) word) (drop (at + 1) s)
  starts_more h k e = begins-more word i h (drop at s) (get_or s at 0) (drop (at + 1) s) (split s at k) e

  pub starts_other : i < length word → at < length s → get_or s at 0 ≢ get_or word i 0 → starts_with (drop i word) (drop at s) ≡ false
  starts_other h k e = begins-stop word i h (drop at s) (get_or s at 0) (drop (at + 1) s) (split s at k) e

  pub starts-short : i < length word → length s ≤ at → starts_with (drop i word) (drop at s) ≡ false
  starts-short h k = begins-none word i h (drop at s) (drop_of_length-le s k)

  pub starts-whole : length word ≤ i → starts_with (drop i word) (drop at s) ≡ true
  starts-whole h = begins-end word i (drop at s) h

-- a text that begins with a word has its length
pub starts-length : (word s : List ℕ) → starts_with word s ≡ true → length word ≤ length s
unfolding starts_with
starts-length [] s e = omega arith
starts-length (x ∷ word) [] e = let z : ◌≡◌ {A = ℕ} 0 1 = cc in absurd (omega arith)
starts-length (x ∷ word) (b ∷ s) e = omega (arith, starts-length word s (and_right (eqb b x) _ e))
