-- Blanking keeps UTF-8: every token begins at an ASCII byte, and ends behind one, before one, or at the end, so no character is cut.
-- So white space at the ends of a part of the blanked text is white space by characters too.
use Rattle.std.specs.Prelude.{ℕ, zero, suc, pred, ◌+◌, ◌≤◌, ◌<◌, ◌≡◌, refl, ◌⊎◌, Bool, true, false, ◌&&◌, List, [], ◌∷◌, eqb, leb, ltb, length, drop, get_or, take}
use Rattle.std.proofs.Common.{sym, ◌∙◌, subst, inl, inr, arith, lit≤, length-take, length-drop, get_or-drop, get_or-take, eqb-true, leb-true, ltb-true}
use Rattle.text_rules.specs.Bytes.{◌or_else◌}
use Rattle.text_rules.specs.BytesLaws.{and_left, and_right, whether}
use Rattle.text_rules.specs.Classes.{apostrophe, backslash, hash, letter_b, letter_r, lf, quote, slash, star}
use Rattle.text_rules.specs.Search.{bytes_before, opens, run}
use Rattle.text_rules.proofs.SearchLaws.{in_text}
use Rattle.text_rules.specs.Utf8.{Range, is_utf8, well_formed_after, within}
use Rattle.text_rules.proofs.Utf8Cuts.{Cut, High, ascii-first, cut-after, cut-next, cut-utf8, follow-map, none_awaited}
use Rattle.source_rules.specs.Blank.{blank_from, blanked, block_length, block_token, char_token, escape_token, hashes, line_token, put, raw_length, raw_letters, raw_token, string_length, string_token, token_length}

-- a token of n bytes at the head is fine: it is none, or begins at an ASCII byte and ends at a place to cut
abbrev CutsWell : List ℕ → ℕ → Type 0
CutsWell s n = (n ≡ 0) ⊎ ((get_or s 0 0 < 128) × Cut n s)

fine_or : (s : List ℕ) (m n : ℕ) → CutsWell s m → CutsWell s n → CutsWell s (m or_else n)
fine_or s zero n h k = k
fine_or s (suc m) n h k = h

-- behind an ASCII byte
behind : (n : ℕ) (s : List ℕ) (m : ℕ) → n ≡ suc m → m < length s → get_or s m 0 < 128 → Cut n s
behind n s m e i a = subst (λ k. Cut k s) (sym e) (inr (i, a))

-- up to the next x, or to the end
before-cut : (x : ℕ) → x < 128 → (s : List ℕ) → Cut (bytes_before x s) s
unfolding run
before-cut x h [] = tt
before-cut x h (b ∷ s) =
    elim (whether (eqb b x)) [
      | inl e ↦ rw (e, run) (omega (arith, eqb-true b x e))
      | inr e ↦ rw (e, run) (cut-next (bytes_before x s) b s (before-cut x h s))
    ]

block-cut : (d p : ℕ) (s : List ℕ) → Cut (block_length d p s) s
unfolding block_length
block-cut d p [] = tt
block-cut zero p (b ∷ s) =
    elim (whether (eqb p slash && eqb b star)) [
      | inl e ↦ rw (e, block_length) (cut-next (block_length 1 0 s) b s (block-cut 1 0 s))
      | inr e ↦
          elim (whether (eqb p star && eqb b slash)) [
            | inl t ↦ rw (e, t, block_length) (inr (omega arith, omega (arith, eqb-true b slash (and_right (eqb p star) _ t))))
            | inr t ↦ rw (e, t, block_length) (cut-next (block_length zero b s) b s (block-cut zero b s))
          ]
    ]
block-cut (suc d) p (b ∷ s) =
    elim (whether (eqb p slash && eqb b star)) [
      | inl e ↦ rw (e, block_length) (cut-next (block_length (suc (suc d)) 0 s) b s (block-cut (suc (suc d)) 0 s))
      | inr e ↦
          elim (whether (eqb p star && eqb b slash)) [
            | inl t ↦ rw (e, t, block_length) (cut-next (block_length d 0 s) b s (block-cut d 0 s))
            | inr t ↦ rw (e, t, block_length) (cut-next (block_length (suc d) b s) b s (block-cut (suc d) b s))
          ]
    ]

-- among n hashes at the head, the last is one
hash_at : (n : ℕ) (s : List ℕ) → suc n ≤ hashes s → (n < length s) × (get_or s n 0 < 128)
unfolding run
hash_at n [] h = absurd (omega arith)
hash_at zero (b ∷ s) h =
    elim (whether (eqb b hash)) [
      | inl e ↦ (omega arith, omega (arith, eqb-true b hash e))
      | inr e ↦ let z : 1 ≤ 0 = rw (e, run) at h in absurd (omega arith)
    ]
hash_at (suc n) (b ∷ s) h =
    elim (whether (eqb b hash)) [
      | inl e ↦ let k : suc (suc n) ≤ suc (hashes s) = rw (e, run) at h in let (i, a) = hash_at n s (omega arith) in (omega arith, a)
      | inr e ↦ let z : suc (suc n) ≤ 0 = rw (e, run) at h in absurd (omega arith)
    ]

raw_cut : (n : ℕ) (s : List ℕ) → Cut (raw_length n s) s
unfolding raw_length
raw_cut n [] = tt
raw_cut n (b ∷ s) =
    elim (whether (eqb b quote && leb n (hashes s))) [
      | inl e ↦ rw (e, raw_length) (closed n (eqb-true b quote (and_left _ _ e)) (leb-true n (hashes s) (and_right (eqb b quote) _ e)))
      | inr e ↦ rw (e, raw_length) (cut-next (raw_length n s) b s (raw_cut n s))
    ]
  where
    closed : (k : ℕ) → b ≡ quote → k ≤ hashes s → Cut (suc k) (b ∷ s)
    closed zero q h = inr (omega arith, omega arith)
    closed (suc k) q h = let (i, a) = hash_at k s h in inr (omega arith, a)

string_cut : (skip : Bool) (s : List ℕ) → Cut (string_length skip s) s
unfolding string_length
string_cut skip [] = tt
string_cut true (b ∷ s) = cut-next (string_length false s) b s (string_cut false s)
string_cut false (b ∷ s) =
    elim (whether (eqb b quote)) [
      | inl e ↦ rw (e, string_length) (inr (omega arith, omega (arith, eqb-true b quote e)))
      | inr e ↦ rw (e, string_length) (cut-next (string_length (eqb b backslash) s) b s (string_cut (eqb b backslash) s))
    ]

-- the first of two bytes that open a token
opens-first : (x y : ℕ) (s : List ℕ) → opens x y s ≡ true → get_or s 0 0 ≡ x
unfolding opens
opens-first x y s e = eqb-true (get_or s 0 0) x (and_left _ _ e)

line-fine : (s : List ℕ) → CutsWell s (line_token s)
unfolding line_token
line-fine s =
    elim (whether (opens slash slash s)) [
      | inl e ↦ rw (e, line_token) (inr (omega (arith, opens-first slash slash s e), before-cut lf (lit≤ tt) s))
      | inr e ↦ rw (e, line_token) (inl refl)
    ]

block-fine : (s : List ℕ) → CutsWell s (block_token s)
unfolding block_token
block-fine s =
    elim (whether (opens slash star s)) [
      | inl e ↦ rw (e, block_token) (inr (omega (arith, opens-first slash star s e), cut-after 2 (block_length 0 0 (drop 2 s)) s (block-cut 0 0 (drop 2 s))))
      | inr e ↦ rw (e, block_token) (inl refl)
    ]

string_fine : (s : List ℕ) → CutsWell s (string_token s)
unfolding string_token
string_fine s =
    elim (whether (eqb (get_or s 0 0) quote)) [
      | inl e ↦ rw (e, string_token) (inr (omega (arith, eqb-true (get_or s 0 0) quote e), cut-after 1 (string_length false (drop 1 s)) s (string_cut false (drop 1 s))))
      | inr e ↦ rw (e, string_token) (inl refl)
    ]

letters_first : (s : List ℕ) → 0 < raw_letters s → get_or s 0 0 < 128
unfolding raw_letters
letters_first s h =
    elim (whether (eqb (get_or s 0 0) letter_r)) [
      | inl e ↦ omega (arith, eqb-true (get_or s 0 0) letter_r e)
      | inr e ↦
          elim (whether (opens letter_b letter_r s)) [
            | inl t ↦ omega (arith, opens-first letter_b letter_r s t)
            | inr t ↦ let z : 0 < 0 = rw (e, t, raw_letters) at h in absurd (omega arith)
          ]
    ]

raw_fine : (prev : ℕ) (s : List ℕ) → CutsWell s (raw_token prev s)
unfolding raw_token
raw_fine prev s = pick (ltb 0 (raw_letters s) && _) (λ e. letters_first s (ltb-true 0 (raw_letters s) (and_left _ _ e)))
  where
    k : ℕ
    k = raw_letters s

    n : ℕ
    n = hashes (drop k s)

    pick : (t : Bool) → (t ≡ true → get_or s 0 0 < 128) → CutsWell s (elim t [ true ↦ k + n + 1 + raw_length n (drop (k + n + 1) s) | false ↦ 0 ])
    pick true h = inr (h refl, cut-after (k + n + 1) (raw_length n (drop (k + n + 1) s)) s (raw_cut n (drop (k + n + 1) s)))
    pick false h = inl refl

-- where x stands first
before_at : (x : ℕ) (s : List ℕ) → bytes_before x s < length s → get_or s (bytes_before x s) 0 ≡ x
unfolding run
before_at x [] h = absurd (omega arith)
before_at x (b ∷ s) h =
    elim (whether (eqb b x)) [
      | inl e ↦ rw (e, run) (eqb-true b x e)
      | inr e ↦ let k : suc (bytes_before x s) < suc (length s) = rw (e, run) at h in rw (e, run) (before_at x s (omega arith))
    ]

escape_fine : (s : List ℕ) → get_or s 0 0 < 128 → CutsWell s (escape_token s)
unfolding escape_token
escape_fine s a = pick (ltb i (length w)) refl
  where
    w : List ℕ
    w = take 10 (drop 2 s)

    i : ℕ
    i = bytes_before apostrophe w

    pick : (t : Bool) → ltb i (length w) ≡ t → CutsWell s (elim t [ true ↦ 3 + i | false ↦ 0 ])
    pick false e = inl refl
    pick true e =
        let h : i < length w = ltb-true i (length w) e in
        let size : length (take 10 (drop 2 s)) ≤ 10 = simp length-take (omega arith) in
        let rest : length (take 10 (drop 2 s)) ≤ length (drop 2 s) = simp length-take (omega arith) in
        let there : get_or w i 0 ≡ get_or s (2 + i) 0 = get_or-take 10 (drop 2 s) i 0 (omega arith) ∙ get_or-drop 2 s i 0 in
        let mark : get_or w i 0 ≡ apostrophe = before_at apostrophe w h in
        inr (a, behind (3 + i) s (2 + i) (omega arith) (omega (arith, length-drop 2 s)) (omega arith))

char_fine : (s : List ℕ) → CutsWell s (char_token s)
unfolding char_token
char_fine s =
    elim (whether (eqb (get_or s 0 0) apostrophe)) [
      | inr e ↦ rw (e, char_token) (inl refl)
      | inl e ↦
          let a : get_or s 0 0 < 128 = omega (arith, eqb-true (get_or s 0 0) apostrophe e) in
          elim (whether (eqb (get_or s 1 0) backslash)) [
            | inl t ↦ rw (e, t, char_token) (escape_fine s a)
            | inr t ↦
                elim (whether (eqb (get_or s 2 0) apostrophe)) [
                  | inl u ↦ let q = eqb-true (get_or s 2 0) apostrophe u in rw (e, t, u, char_token) (inr (a, inr (in_text s 2 (omega arith), omega arith)))
                  | inr u ↦ rw (e, t, u, char_token) (inl refl)
                ]
          ]
    ]

token_fine : (prev : ℕ) (s : List ℕ) → CutsWell s (token_length prev s)
unfolding token_length
token_fine prev s =
    fine_or s (line_token s) _ (line-fine s)
    (fine_or s (block_token s) _ (block-fine s)
    (fine_or s (raw_token prev s) _ (raw_fine prev s)
    (fine_or s (string_token s) _ (string_fine s) (char_fine s))))

-- what is put in a token is ASCII
put-ascii : (m b : ℕ) → put (suc m) b < 128
unfolding put
put-ascii m b = elim (whether (eqb b lf)) [ inl e ↦ rw (e, put) (lit≤ tt) | inr e ↦ rw (e, put) (lit≤ tt) ]

-- outside a token the text is well formed after what is awaited; inside one, it is from the token's end on
abbrev Good : ℕ → List Range → List ℕ → Type 0
Good zero awaited s = High awaited × (well_formed_after awaited s ≡ true)
Good (suc k) awaited s = is_utf8 (drop (suc k) s) ≡ true

-- and what is awaited of the blanked text
abbrev left : ℕ → List Range → List Range
left zero awaited = awaited
left (suc k) awaited = []

-- one byte: as it stands, or blanked, where a token of m bytes begins
token_step : (b : ℕ) (r : List ℕ) → ((k : ℕ) (awaited : List Range) → Good k awaited r → well_formed_after (left k awaited) (blank_from k b r) ≡ true)
    → (awaited : List Range) (m : ℕ) → CutsWell (b ∷ r) m → High awaited → well_formed_after awaited (b ∷ r) ≡ true
    → well_formed_after awaited (put m b ∷ blank_from (pred m) b r) ≡ true
unfolding well_formed_after put is_utf8
token_step b r go [] zero f h w = follow-map b r (blank_from 0 b r) (λ rs high v. go 0 rs (high, v)) w
token_step b r go (a ∷ rs) zero f h w = rw (and_left (within b a) (well_formed_after rs r) w) (go 0 rs (h.1, and_right (within b a) _ w))
token_step b r go awaited (suc k) (inl z) h w = absurd (omega arith)
token_step b r go (a ∷ rs) (suc k) (inr f) h w = absurd (none_awaited a b h.0 f.0 (and_left _ (well_formed_after rs r) w))
token_step b r go [] (suc zero) (inr f) h w =
    ascii-first (put 1 b) (blank_from 0 b r) (put-ascii 0 b) ∙ go 0 [] (tt, cut-utf8 1 (b ∷ r) f.1 w)
token_step b r go [] (suc (suc k)) (inr f) h w =
    ascii-first (put (suc (suc k)) b) (blank_from (suc k) b r) (put-ascii (suc k) b) ∙ go (suc k) [] (cut-utf8 (suc (suc k)) (b ∷ r) f.1 w)

from-utf8 : (k prev : ℕ) (awaited : List Range) (s : List ℕ) → Good k awaited s → well_formed_after (left k awaited) (blank_from k prev s) ≡ true
unfolding blank_from is_utf8 well_formed_after
from-utf8 zero prev awaited [] g = g.1
from-utf8 (suc k) prev awaited [] g = refl
from-utf8 zero prev awaited (b ∷ r) g =
    token_step b r (λ k aw h. from-utf8 k b aw r h) awaited (token_length prev (b ∷ r)) (token_fine prev (b ∷ r)) g.0 g.1
from-utf8 (suc zero) prev awaited (b ∷ r) g = ascii-first (put 1 b) (blank_from 0 b r) (put-ascii 0 b) ∙ from-utf8 zero b [] r (tt, g)
from-utf8 (suc (suc k)) prev awaited (b ∷ r) g =
    ascii-first (put (suc (suc k)) b) (blank_from (suc k) b r) (put-ascii (suc k) b) ∙ from-utf8 (suc k) b [] r g

-- well-formed UTF-8 stays well formed
pub blanked-utf8 : (s : List ℕ) → is_utf8 s ≡ true → is_utf8 (blanked s) ≡ true
unfolding blanked is_utf8
blanked-utf8 s h = from-utf8 0 0 [] s (tt, h)
