-- A text cut behind the closing brace of a body. That brace is in no word and no pair, so up to it the pieces of the cut text are those of the
-- text itself.
use Prim.Native.Nat.{ℕ, zero, suc, ◌+◌, ◌-◌, ◌≤◌, ◌<◌, max}
use mathlib.Core.Path.{◌≡◌, refl, ap, sym, ◌∙◌}
use mathlib.Core.Logic.{◌≢◌, inl, inr}
use mathlib.Core.Bool.{Bool, true, false, ◌&&◌, ◌||◌}
use mathlib.Core.List.{List, [], ◌∷◌}
use mathlib.Core.Option.{Option, none, some}
use native.Mathlib.Nat.{add-zero}
use native.Mathlib.Omega.{arith}
use lib.Dec.{eqb, leb}
use lib.ListN.{drop, get_or, length, length-drop, length-take, take}
use lib.Seq.{drop-drop, get_or-take, take-nil, take-take}
use borrow.Author.Tests.{eqb-true, ne_eqb}
use Rattle.text_rules.specs.Bytes.{All}
use Rattle.text_rules.specs.BytesLaws.{All-map, and_right, or_cases, true_false, whether}
use Rattle.text_rules.specs.Classes.{ampersand, angle_close, bar, brace_close, brace_open, class_of, equals, is_letter, is_word, lf}
use Rattle.text_rules.proofs.ClassesLaws.{class_letter}
use Rattle.text_rules.proofs.ScanLaws.{head_at, split}
use Rattle.text_rules.specs.Search.{count_after, opens, run}
use Rattle.text_rules.proofs.SearchLaws.{run-all}
use Rattle.source_rules.specs.Brackets.{partner}
use Rattle.source_rules.proofs.BracketsLaws.{depth-other, partner-inside}
use Rattle.source_rules.specs.Measures.{decides, deepest, is_pair, line_at, piece_length}
use Rattle.measures.proofs.BodyLaws.{pair-at, piece-room}

-- bytes that neither change the depth nor begin a line
abbrev pub Inner : ℕ → Type 0
Inner b = (b ≢ brace_open) × (b ≢ brace_close) × (b ≢ lf)

-- such bytes are passed by each walk at once: the search for the partner
partner-inner : (d at k : ℕ) (s : List ℕ) → All Inner (take k s) → k ≤ length s
    → partner brace_open brace_close d at s ≡ partner brace_open brace_close d (at + k) (drop k s)
unfolding partner
partner-inner d at zero s a h = ap (λ i. partner brace_open brace_close d i s) (sym (add-zero at))
partner-inner d at (suc k) [] a h = absurd (omega arith)
partner-inner d at (suc k) (b ∷ s) a h =
    let e : suc at + k ≡ at + suc k = omega arith in
    let x = ne_eqb b brace_close a.0.1 in
    let same = depth-other brace_open brace_close b d (ne_eqb b brace_open a.0.0) x in
    rw (x, same) (partner-inner d (suc at) k s a.1 (omega arith) ∙ ap (λ i. partner brace_open brace_close d i (drop k s)) e)

-- the depth
pub deepest-inner : (reached depth k : ℕ) (s : List ℕ) → All Inner (take k s) → depth ≤ reached → deepest reached depth s ≡ deepest reached depth (drop k s)
unfolding deepest
deepest-inner reached depth zero s a h = refl
deepest-inner reached depth (suc k) [] a h = refl
deepest-inner reached depth (suc k) (b ∷ s) a h =
    let same = depth-other brace_open brace_close b depth (ne_eqb b brace_open a.0.0) (ne_eqb b brace_close a.0.1) in
    let most : max reached depth ≡ reached = omega arith in
    rw (same, most) (deepest-inner reached depth k s a.1 h)

-- the lines
pub line-inner : (n k : ℕ) (s : List ℕ) → All Inner (take k s) → line_at n s ≡ line_at n (drop k s)
unfolding line_at count_after
line-inner n zero s a = refl
line-inner n (suc k) [] a = refl
line-inner n (suc k) (b ∷ s) a = rw (ne_eqb b lf a.0.2) (line-inner n k s a.1)

-- a byte of a word is one
word_inner : (b : ℕ) → is_word b ≡ true → Inner b
unfolding class_of is_letter
word_inner b e = (λ z. other brace_open refl z, λ z. other brace_close refl z, λ z. other lf refl z)
  where
    other : (x : ℕ) → is_word x ≡ false → b ≡ x → ⊥
    other x n z = true_false (is_word x) (ap is_word (sym z) ∙ e) n

-- the first byte of a word is one
pub letter_inner : (b : ℕ) → is_letter b ≡ true → Inner b
letter_inner b t = word_inner b (ap (leb 2) (eqb-true (class_of b) 3 (class_letter b ∙ t)))

pair-inner : (b c : ℕ) (s : List ℕ) → is_pair (b ∷ c ∷ s) ≡ true → Inner c
unfolding is_pair opens
pair-inner b c s e =
    elim (or_cases ((eqb b ampersand && eqb c ampersand) || (eqb b bar && eqb c bar)) _ e) [
      | inl t ↦
          elim (or_cases (eqb b ampersand && eqb c ampersand) _ t) [
            | inl u ↦ let q = eqb-true c ampersand (and_right (eqb b ampersand) _ u) in (λ z. omega arith, λ z. omega arith, λ z. omega arith)
            | inr u ↦ let q = eqb-true c bar (and_right (eqb b bar) _ u) in (λ z. omega arith, λ z. omega arith, λ z. omega arith)
          ]
      | inr t ↦ let q = eqb-true c angle_close (and_right (eqb b equals) _ t) in (λ z. omega arith, λ z. omega arith, λ z. omega arith)
    ]

two-inner : (b : ℕ) (s : List ℕ) → Inner b → is_pair (b ∷ s) ≡ true → All Inner (take 2 (b ∷ s))
two-inner b [] i e = (i, tt)
two-inner b (c ∷ s) i e = (i, (pair-inner b c s e, tt))

-- a piece has such bytes only, where its first byte is one
piece-inner : (b : ℕ) (s : List ℕ) → Inner b → All Inner (take (piece_length (b ∷ s)) (b ∷ s))
unfolding piece_length
piece-inner b s i =
    elim (whether (is_letter b)) [
      | inl e ↦ rw e (All-map (λ x. is_word x ≡ true) Inner word_inner (take (run is_word (b ∷ s)) (b ∷ s)) (run-all is_word (b ∷ s)))
      | inr e ↦
          elim (whether (is_pair (b ∷ s))) [
            | inl t ↦ rw (e, t) (two-inner b s i t)
            | inr t ↦ rw (e, t) (i, tt)
          ]
    ]

-- the text up to the end of its body, where there is one
unfoldable pub cut : Option ℕ → List ℕ → List ℕ
cut none s = s
cut (some e) s = take (e + 1) s

-- the rest of a text that was cut is the cut rest
pub drop-take : (i m : ℕ) (s : List ℕ) → drop i (take m s) ≡ take (m - i) (drop i s)
drop-take zero m s = let e : m ≡ m - 0 = omega arith in ap (λ k. take k s) e
drop-take (suc i) m [] = ap (drop (suc i)) (take-nil m) ∙ sym (take-nil (m - suc i))
drop-take (suc i) zero (b ∷ s) = let e : 0 ≡ 0 - suc i = omega arith in ap (λ k. take k (drop i s)) e
drop-take (suc i) (suc m) (b ∷ s) = let e : m - i ≡ suc m - suc i = omega arith in drop-take i m s ∙ ap (λ k. take k (drop i s)) e

-- a run that ends before the cut
run_take : (f : ℕ → Bool) (k : ℕ) (s : List ℕ) → run f s ≤ k → run f (take k s) ≡ run f s
unfolding run
run_take f zero [] h = refl
run_take f zero (b ∷ s) h = elim (whether (f b)) [ inl t ↦ absurd (omega (arith, rw (t, run) at h)) | inr t ↦ rw (t, run) refl ]
run_take f (suc k) [] h = refl
run_take f (suc k) (b ∷ s) h =
    elim (whether (f b)) [
      | inl t ↦ let l : suc (run f s) ≤ suc k = rw (t, run) at h in rw (t, run) (ap suc (run_take f k s (omega arith)))
      | inr t ↦ rw (t, run) refl
    ]

-- a place before the end, at which the end is still to come
module _ (s : List ℕ) (d at : ℕ) (h : at < length s) where
  abbrev pub Ends : Option ℕ → Type 0
  Ends o = partner brace_open brace_close d at (drop at s) ≡ o

  -- the place is in the cut text
  pub cut_inside : (o : Option ℕ) → Ends o → at < length (cut o s)
  unfolding cut
  cut_inside none p = h
  cut_inside (some e) p = simp length-take (omega (arith, partner-inside brace_open brace_close d at (drop at s) e p, length-drop at s))

  -- with the same byte
  pub cut-byte : (o : Option ℕ) → Ends o → get_or (cut o s) at 0 ≡ get_or s at 0
  unfolding cut
  cut-byte none p = refl
  cut-byte (some e) p = get_or-take (e + 1) s at 0 (omega (arith, partner-inside brace_open brace_close d at (drop at s) e p))

  module _ (i : Inner (get_or s at 0)) where
    abbrev pub size : ℕ
    size = piece_length (drop at s)

    -- the bytes of the piece
    pub inner : All Inner (take size (drop at s))
    inner = rw (split s at h) (piece-inner (get_or s at 0) (drop (at + 1) s) i)

    -- the end is still to come behind the piece
    pub piece-partner : partner brace_open brace_close d at (drop at s) ≡ partner brace_open brace_close d (at + size) (drop (at + size) s)
    piece-partner =
        partner-inner d at size (drop at s) inner (omega (arith, piece-room s at h, length-drop at s))
        ∙ ap (partner brace_open brace_close d (at + size)) (drop-drop size at s)

    -- so the piece ends before the cut
    size-before : (e : ℕ) → Ends (some e) → at + size ≤ e
    size-before e p = omega (arith, partner-inside brace_open brace_close d (at + size) (drop (at + size) s) e (sym piece-partner ∙ p))

    -- its bytes are those of the cut text
    pub front : (o : Option ℕ) → Ends o → (k : ℕ) → k ≤ size → take k (drop at (cut o s)) ≡ take k (drop at s)
    unfolding cut
    front none p k l = refl
    front (some e) p k l = ap (take k) (drop-take at (e + 1) s) ∙ take-take k (e + 1 - at) (drop at s) (omega (arith, size-before e p))

    next : (o : Option ℕ) → Ends o → get_or (cut o s) (at + 1) 0 ≡ get_or s (at + 1) 0
    unfolding cut
    next none p = refl
    next (some e) p = get_or-take (e + 1) s (at + 1) 0 (omega (arith, size-before e p, piece-room s at h))

    pair-cut : (o : Option ℕ) → Ends o → is_pair (drop at (cut o s)) ≡ is_pair (drop at s)
    pair-cut o p =
        pair-at (cut o s) at
        ∙ ap (λ b. is_pair (b ∷ get_or (cut o s) (at + 1) 0 ∷ [])) (cut-byte o p)
        ∙ ap (λ c. is_pair (get_or s at 0 ∷ c ∷ [])) (next o p)
        ∙ sym (pair-at s at)

    run-cut : (o : Option ℕ) → Ends o → is_letter (get_or s at 0) ≡ true → run is_word (drop at (cut o s)) ≡ run is_word (drop at s)
    unfolding cut piece_length
    run-cut none p e = refl
    run-cut (some e) p l =
        let r : size ≡ run is_word (drop at s) = rw (head_at s at, l) in
        ap (run is_word) (drop-take at (e + 1) s) ∙ run_take is_word (e + 1 - at) (drop at s) (omega (arith, size-before e p))

    head-cut : (o : Option ℕ) → Ends o → get_or (drop at (cut o s)) 0 0 ≡ get_or s at 0
    head-cut o p = head_at (cut o s) at ∙ cut-byte o p

    -- the piece of the cut text is as long
    pub size-cut : (o : Option ℕ) → Ends o → piece_length (drop at (cut o s)) ≡ size
    unfolding piece_length
    size-cut o p =
        elim (whether (is_letter (get_or s at 0))) [
          | inl l ↦ rw (head-cut o p, head_at s at, l) (run-cut o p l)
          | inr l ↦ rw (head-cut o p, head_at s at, l, pair-cut o p)
        ]

    -- and decides as well
    pub decides-cut : (o : Option ℕ) → Ends o → decides (drop at (cut o s)) ≡ decides (drop at s)
    unfolding decides piece_length
    decides-cut o p =
        elim (whether (is_letter (get_or s at 0))) [
          | inl l ↦
              let r : size ≡ run is_word (drop at s) = rw (head_at s at, l) in
              rw (head-cut o p, head_at s at, l, run-cut o p l, front o p (run is_word (drop at s)) (omega arith))
          | inr l ↦ rw (head-cut o p, head_at s at, l, pair-cut o p)
        ]
