-- A body: one step of its depth and lines, its pieces, and the jump over a piece.
use Prim.Native.Nat.{ℕ, suc, pred, ◌+◌, ◌-◌, ◌≤◌, ◌<◌, max}
use mathlib.Core.Path.{◌≡◌, refl, ap, sym, ◌∙◌}
use mathlib.Core.Logic.{◌≢◌}
use mathlib.Core.Bool.{true, false, ◌||◌, or-false}
use mathlib.Core.List.{List, [], ◌∷◌}
use native.Mathlib.Numerals.{add-one, sub-one}
use native.Mathlib.Omega.{arith}
use lib.Dec.{eqb}
use lib.ListN.{drop, get_or, length, length-drop}
use lib.Seq.{drop-drop, get_or-drop}
use borrow.Author.Tests.{eq-eqb, ne_eqb}
use Rattle.text_rules.specs.Bytes.{among, ascii, if◌then◌otherwise◌}
use Rattle.text_rules.specs.Classes.{ampersand, angle_close, bar, brace_close, brace_open, equals, is_letter, is_word, lf, question}
use Rattle.text_rules.proofs.ScanLaws.{head_at, split}
use Rattle.text_rules.specs.Search.{count_after, opens, part, run}
use Rattle.source_rules.specs.Brackets.{depth_after}
use Rattle.source_rules.proofs.BracketsLaws.{depth_close, depth_open, depth-other}
use Rattle.source_rules.specs.Measures.{cyclomatic_from, decides, deepest, is_pair, line_at, piece_length}
use Rattle.source_rules.proofs.PieceLaws.{cyclomatic_skip_left, piece_inside}
use Rattle.source_rules.proofs.WalkSteps.{cyclomatic-step, deepest-step, line_step}

module _ (s : List ℕ) (at : ℕ) (h : at < length s) where
  abbrev b : ℕ
  b = get_or s at 0

  abbrev rest : List ℕ
  rest = drop (at + 1) s

  -- the ways of a step of the depth
  module _ (reached depth : ℕ) where
    pub deepest_open : b ≡ brace_open → deepest reached depth (drop at s) ≡ deepest (max reached (depth + 1)) (depth + 1) rest
    deepest_open e = deepest-step s at h reached depth ∙ rw (depth_open brace_open brace_close b depth (eq-eqb b brace_open e), add-one depth)

    -- a depth that was reached before changes nothing
    flat : (d : ℕ) → depth_after brace_open brace_close b depth ≡ d → d ≤ reached → deepest reached depth (drop at s) ≡ deepest reached d rest
    flat d e l = let m : max reached d ≡ reached = omega arith in deepest-step s at h reached depth ∙ rw (e, m)

    pub deepest_close : b ≢ brace_open → b ≡ brace_close → depth ≤ reached → deepest reached depth (drop at s) ≡ deepest reached (depth - 1) rest
    deepest_close n e l = flat (depth - 1) (depth_close brace_open brace_close b depth (ne_eqb b brace_open n) (eq-eqb b brace_close e) ∙ sym (sub-one depth)) (omega arith)

    pub deepest-other : b ≢ brace_open → b ≢ brace_close → depth ≤ reached → deepest reached depth (drop at s) ≡ deepest reached depth rest
    deepest-other m n l = flat depth (depth-other brace_open brace_close b depth (ne_eqb b brace_open m) (ne_eqb b brace_close n)) l

  pub line-lf : (n : ℕ) → b ≡ lf → line_at n (drop at s) ≡ line_at (n + 1) rest
  unfolding count_after
  line-lf n e = line_step s at h n ∙ rw (eq-eqb b lf e, add-one n)

  pub line_other : (n : ℕ) → b ≢ lf → line_at n (drop at s) ≡ line_at n rest
  unfolding count_after
  line_other n e = line_step s at h n ∙ rw (ne_eqb b lf e)

  -- the piece at a place
  pub piece-room : (1 ≤ piece_length (drop at s)) × (at + piece_length (drop at s) ≤ length s)
  piece-room =
      let p : (1 ≤ piece_length (drop at s)) × (piece_length (drop at s) ≤ length (drop at s)) = rw (split s at h) (piece_inside b rest) in
      (p.0, omega (arith, length-drop at s))

  pub cyclomatic_jump : (n : ℕ) → cyclomatic_from n 0 (drop at s) ≡ cyclomatic_from (if decides (drop at s) then suc n otherwise n) 0 (drop (at + piece_length (drop at s)) s)
  cyclomatic_jump n =
      let p = piece-room in
      let k : at + 1 + pred (piece_length (drop at s)) ≡ at + piece_length (drop at s) = omega arith in
      let m = if decides (drop at s) then suc n otherwise n in
      cyclomatic-step s at h n
      ∙ cyclomatic_skip_left m (pred (piece_length (drop at s))) rest (omega (arith, length-drop (at + 1) s))
      ∙ ap (cyclomatic_from m 0) (drop-drop (pred (piece_length (drop at s))) (at + 1) s ∙ ap (λ i. drop i s) k)

  module _ (n : ℕ) where
    pub cyclomatic-more : decides (drop at s) ≡ true → cyclomatic_from n 0 (drop at s) ≡ cyclomatic_from (n + 1) 0 (drop (at + piece_length (drop at s)) s)
    cyclomatic-more e = cyclomatic_jump n ∙ rw (e, add-one n)

    pub cyclomatic-same : decides (drop at s) ≡ false → cyclomatic_from n 0 (drop at s) ≡ cyclomatic_from n 0 (drop (at + piece_length (drop at s)) s)
    cyclomatic-same e = cyclomatic_jump n ∙ rw e

-- a pair whose first byte is known
module _ (c : ℕ) where
  pub pair_and : is_pair (ampersand ∷ c ∷ []) ≡ eqb c ampersand
  unfolding is_pair opens
  pair_and = or-false (eqb c ampersand || false) ∙ or-false (eqb c ampersand)

  pub pair_or : is_pair (bar ∷ c ∷ []) ≡ eqb c bar
  unfolding is_pair opens
  pair_or = or-false (eqb c bar)

  pub pair_arrow : is_pair (equals ∷ c ∷ []) ≡ eqb c angle_close
  unfolding is_pair opens
  pair_arrow = refl

pub no_pair : (b c : ℕ) → b ≢ ampersand → b ≢ bar → b ≢ equals → is_pair (b ∷ c ∷ []) ≡ false
unfolding is_pair opens
no_pair b c h k l = rw (ne_eqb b ampersand h, ne_eqb b bar k, ne_eqb b equals l)

module _ (s : List ℕ) (at : ℕ) where
  pub pair-at : is_pair (drop at s) ≡ is_pair (get_or s at 0 ∷ get_or s (at + 1) 0 ∷ [])
  unfolding is_pair opens
  pair-at = rw (head_at s at, get_or-drop at s 1 0)

  -- a word, from its first byte up to `end`
  module _ (end : ℕ) (n : end ≡ at + run is_word (drop at s)) (e : is_letter (get_or s at 0) ≡ true) where
    pub word_length : end ≡ at + piece_length (drop at s)
    unfolding piece_length
    word_length = n ∙ rw (head_at s at, e)

    pub word_decides : among (part at end s) (ascii "if" ∷ ascii "while" ∷ ascii "for" ∷ ascii "loop" ∷ []) ≡ decides (drop at s)
    unfolding decides
    word_decides = let k : end - at ≡ run is_word (drop at s) = omega arith in rw (head_at s at, e, k)

  module _ (e : is_letter (get_or s at 0) ≡ false) where
    pub pair-length : is_pair (drop at s) ≡ true → piece_length (drop at s) ≡ 2
    unfolding piece_length
    pair-length t = rw (head_at s at, e, t)

    pub pair-decides : is_pair (drop at s) ≡ true → decides (drop at s) ≡ true
    unfolding decides
    pair-decides t = rw (head_at s at, e, t)

    pub byte-length : is_pair (drop at s) ≡ false → piece_length (drop at s) ≡ 1
    unfolding piece_length
    byte-length t = rw (head_at s at, e, t)

    pub byte-decides : is_pair (drop at s) ≡ false → decides (drop at s) ≡ eqb (get_or s at 0) question
    unfolding decides
    byte-decides t = rw (head_at s at, e, t)
