-- Where a well-formed text may be cut: before an ASCII byte or the end, and behind an ASCII byte. What follows is well formed too.
use Rattle.std.specs.Prelude.{ℕ, zero, suc, ◌+◌, ◌≤◌, ◌<◌, ◌≡◌, refl, ◌⊎◌, Bool, true, List, [], ◌∷◌, length, drop, get_or}
use Rattle.std.proofs.Common.{ap, sym, ◌∙◌, subst, inl, inr, arith, lit≤, drop-cons, leb-true}
use Rattle.std.proofs.Math.Bool.{false}
use Rattle.text_rules.specs.Bytes.{All, if◌then◌otherwise◌}
use Rattle.text_rules.specs.BytesLaws.{and_left, and_right, true_false}
use Rattle.text_rules.specs.Utf8.{Follow, Range, ◌to◌, by, follow, go_on, ill_formed, is_utf8, well_formed_after, within}
use Rattle.text_rules.proofs.Utf8Laws.{follow-ascii}

-- no range that is awaited holds an ASCII byte
abbrev pub High : List Range → Type 0
High rs = All (λ r. 128 ≤ r.low) rs

HighFollow : Follow → Type 0
HighFollow ill_formed = Unit {0}
HighFollow (by rs) = High rs

-- a row of the table, and those that come after it
high-row : (t : Bool) (rs : List Range) (y : Follow) → High rs → HighFollow y → HighFollow (if t then by rs otherwise y)
unfolding HighFollow
high-row true rs y h k = h
high-row false rs y h k = k

no_row : HighFollow ill_formed
unfolding HighFollow
no_row = tt

-- the rows of the table ask for bytes from 128 on
follow-high : (b : ℕ) → HighFollow (follow b)
unfolding follow
follow-high b =
    high-row (within b (0x00 to 0x7F)) [] _ tt
    (high-row (within b (0xC2 to 0xDF)) (0x80 to 0xBF ∷ []) _ (lit≤ tt, tt)
    (high-row (within b (0xE0 to 0xE0)) (0xA0 to 0xBF ∷ 0x80 to 0xBF ∷ []) _ (lit≤ tt, (lit≤ tt, tt))
    (high-row (within b (0xE1 to 0xEC)) (0x80 to 0xBF ∷ 0x80 to 0xBF ∷ []) _ (lit≤ tt, (lit≤ tt, tt))
    (high-row (within b (0xED to 0xED)) (0x80 to 0x9F ∷ 0x80 to 0xBF ∷ []) _ (lit≤ tt, (lit≤ tt, tt))
    (high-row (within b (0xEE to 0xEF)) (0x80 to 0xBF ∷ 0x80 to 0xBF ∷ []) _ (lit≤ tt, (lit≤ tt, tt))
    (high-row (within b (0xF0 to 0xF0)) (0x90 to 0xBF ∷ 0x80 to 0xBF ∷ 0x80 to 0xBF ∷ []) _ (lit≤ tt, (lit≤ tt, (lit≤ tt, tt)))
    (high-row (within b (0xF1 to 0xF3)) (0x80 to 0xBF ∷ 0x80 to 0xBF ∷ 0x80 to 0xBF ∷ []) _ (lit≤ tt, (lit≤ tt, (lit≤ tt, tt)))
    (high-row (within b (0xF4 to 0xF4)) (0x80 to 0x8F ∷ 0x80 to 0xBF ∷ 0x80 to 0xBF ∷ []) ill_formed (lit≤ tt, (lit≤ tt, (lit≤ tt, tt))) no_row))))))))

-- the text is empty, or its first byte is ASCII
abbrev pub AsciiHead : List ℕ → Type 0
AsciiHead [] = Unit {0}
AsciiHead (b ∷ s) = b < 128

-- an ASCII byte asks for nothing
pub ascii-first : (b : ℕ) (s : List ℕ) → b < 128 → well_formed_after [] (b ∷ s) ≡ well_formed_after [] s
unfolding well_formed_after
ascii-first b s h = rw (follow-ascii b h)

-- an ASCII byte is in no range that is awaited
pub none_awaited : (r : Range) (b : ℕ) → 128 ≤ r.low → b < 128 → within b r ≡ true → ⊥
unfolding within
none_awaited r b h a w = omega (arith, leb-true r.low b (and_left _ _ w))

-- where an ASCII byte or the end stands, nothing is awaited
pub settled : (awaited : List Range) (s : List ℕ) → High awaited → AsciiHead s → well_formed_after awaited s ≡ true → is_utf8 s ≡ true
unfolding well_formed_after is_utf8
settled [] s h a w = w
settled (r ∷ rs) [] h a w = absurd (true_false false w refl)
settled (r ∷ rs) (b ∷ s) h a w = absurd (none_awaited r b h.0 a (and_left _ (well_formed_after rs s) w))

module _ (n : ℕ) (s : List ℕ) (go : (awaited : List Range) → High awaited → well_formed_after awaited s ≡ true → is_utf8 (drop n s) ≡ true) where
  onward : (f : Follow) → HighFollow f → go_on f (λ rs. well_formed_after rs s) ≡ true → is_utf8 (drop n s) ≡ true
  unfolding HighFollow
  onward ill_formed h w = absurd (true_false false w refl)
  onward (by rs) h w = go rs h w

pub cut-before : (n : ℕ) (awaited : List Range) (s : List ℕ) → High awaited → well_formed_after awaited s ≡ true → AsciiHead (drop n s) → is_utf8 (drop n s) ≡ true
unfolding well_formed_after is_utf8
cut-before zero awaited s h w a = settled awaited s h a w
cut-before (suc n) awaited [] h w a = refl
cut-before (suc n) [] (b ∷ s) h w a = onward n s (λ aw h' w'. cut-before n aw s h' w' a) (follow b) (follow-high b) w
cut-before (suc n) (r ∷ rs) (b ∷ s) h w a = cut-before n rs s h.1 (and_right (within b r) _ w) a

-- what holds of every rest that a first byte may ask for holds behind it
over-follow : (s t : List ℕ) → ((rs : List Range) → High rs → well_formed_after rs s ≡ true → well_formed_after rs t ≡ true)
    → (f : Follow) → HighFollow f → go_on f (λ rs. well_formed_after rs s) ≡ true → go_on f (λ rs. well_formed_after rs t) ≡ true
unfolding HighFollow
over-follow s t m ill_formed h w = w
over-follow s t m (by rs) h w = m rs h w

pub follow-map : (b : ℕ) (s t : List ℕ) → ((rs : List Range) → High rs → well_formed_after rs s ≡ true → well_formed_after rs t ≡ true)
    → well_formed_after [] (b ∷ s) ≡ true → well_formed_after [] (b ∷ t) ≡ true
unfolding well_formed_after
follow-map b s t m w = over-follow s t m (follow b) (follow-high b) w

-- a place to cut: before an ASCII byte or the end, or behind an ASCII byte
abbrev pub Cut : ℕ → List ℕ → Type 0
Cut zero s = AsciiHead s
Cut (suc n) s = AsciiHead (drop (suc n) s) ⊎ ((n < length s) × (get_or s n 0 < 128))

pub cut-next : (n b : ℕ) (s : List ℕ) → Cut n s → Cut (suc n) (b ∷ s)
cut-next zero b s h = inl h
cut-next (suc n) b s (inl h) = inl h
cut-next (suc n) b s (inr h) = inr (omega arith, h.1)

pub cut-after : (j n : ℕ) (s : List ℕ) → Cut n (drop j s) → Cut (j + n) s
cut-after zero n s h = let e : n ≡ zero + n = omega arith in subst (λ m. Cut m s) e h
cut-after (suc j) n [] h = let e : suc (j + n) ≡ suc j + n = omega arith in subst (λ m. Cut m []) e (inl tt)
cut-after (suc j) n (b ∷ s) h = let e : suc (j + n) ≡ suc j + n = omega arith in subst (λ m. Cut m (b ∷ s)) e (cut-next (j + n) b s (cut-after j n s h))

-- what follows a cut in a well-formed text is well formed
pub cut-utf8 : (n : ℕ) (s : List ℕ) → Cut n s → is_utf8 s ≡ true → is_utf8 (drop n s) ≡ true
unfolding is_utf8
cut-utf8 zero s h w = w
cut-utf8 (suc n) s (inl h) w = cut-before (suc n) [] s tt w h
cut-utf8 (suc n) s (inr h) w =
    let d : drop n s ≡ get_or s n 0 ∷ drop (suc n) s = drop-cons s n 0 h.0 in
    let here : is_utf8 (drop n s) ≡ true = cut-before n [] s tt w (subst AsciiHead (sym d) h.1) in
    sym (ascii-first (get_or s n 0) (drop (suc n) s) h.1) ∙ ap (well_formed_after []) (sym d) ∙ here
