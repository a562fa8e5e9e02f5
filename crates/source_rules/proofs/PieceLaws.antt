-- A piece of a body does not leave it, and the count of pieces may jump over one.
use Rattle.std.specs.Prelude.{ℕ, zero, suc, ◌≤◌, ◌≡◌, refl, true, ◌||◌, List, [], ◌∷◌, length, drop}
use Rattle.std.proofs.Common.{inl, inr, arith}
use Rattle.text_rules.specs.BytesLaws.{or_cases, whether}
use Rattle.text_rules.specs.Classes.{ampersand, bar, class_of, is_letter, is_word}
use Rattle.text_rules.specs.Search.{opens}
use Rattle.text_rules.proofs.SearchLaws.{opens-inside, run_length, run-some}
use Rattle.source_rules.specs.Measures.{cyclomatic_from, is_pair, piece_length}

pair_inside : (s : List ℕ) → is_pair s ≡ true → 2 ≤ length s
unfolding is_pair
pair_inside s e =
    elim (or_cases (opens ampersand ampersand s || opens bar bar s) _ e) [
      | inl t ↦ elim (or_cases (opens ampersand ampersand s) _ t) [ inl u ↦ opens-inside 38 37 s u | inr u ↦ opens-inside 124 123 s u ]
      | inr t ↦ opens-inside 61 61 s t
    ]

letter_word : (b : ℕ) → is_letter b ≡ true → is_word b ≡ true
unfolding class_of
letter_word b e = rw (e, class_of)

pub piece_inside : (b : ℕ) (s : List ℕ) → (1 ≤ piece_length (b ∷ s)) × (piece_length (b ∷ s) ≤ length (b ∷ s))
unfolding piece_length
piece_inside b s =
    elim (whether (is_letter b)) [
      | inl e ↦ rw e (run-some is_word b s (letter_word b e), run_length is_word (b ∷ s))
      | inr e ↦
          elim (whether (is_pair (b ∷ s))) [
            | inl t ↦ rw (e, t) (omega arith, pair_inside (b ∷ s) t)
            | inr t ↦ rw (e, t) (omega arith)
          ]
    ]

-- a walk may jump over the bytes that it has to skip_left
pub cyclomatic_skip_left : (n skip_left : ℕ) (s : List ℕ) → skip_left ≤ length s → cyclomatic_from n skip_left s ≡ cyclomatic_from n 0 (drop skip_left s)
unfolding cyclomatic_from
cyclomatic_skip_left n zero s h = refl
cyclomatic_skip_left n (suc skip_left) [] h = refl
cyclomatic_skip_left n (suc skip_left) (b ∷ s) h = cyclomatic_skip_left n skip_left s (omega arith)
