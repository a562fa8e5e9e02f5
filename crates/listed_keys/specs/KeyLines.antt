-- The lines of keys as they are listed: how many, how many bytes, and put into a buffer.
use Rattle.std.specs.Prelude.{ℕ, ◌+◌, ◌≤◌, ◌-◌, ◌≡◌, List, [], ◌∷◌, ◌++◌, map, length, take, drop}
use Rattle.std.proofs.Common.{ap, sym, ◌∙◌, ap₂, arith, length-append, take-append-drop}
use Rattle.text_rules.specs.Bytes.{ascii, put_at}
use Rattle.text_rules.specs.BytesLaws.{map-append}
use Rattle.text_rules.proofs.WriterLaws.{joined_length, put-none}
use Rattle.gate_rules.specs.Check.{listed, spaced}
use Rattle.gate_rules.proofs.LoopForms.{listed-append}
use Rattle.listing.specs.Texts.{spaced-length}
use Rattle.text_rules.proofs.PutLaws.{put-length, put_next}
use Rattle.text_rules.specs.Search.{part}
use Rattle.key_lines.specs.Meets.{part_length}

abbrev pub key_lines : List (List ℕ) → List ℕ
key_lines keys = listed (map spaced keys)

-- there are so many keys, and their lines have so many bytes
abbrev pub Sizes : (count bytes : ℕ) → List (List ℕ) → Type 0
Sizes count bytes keys = (count ≡ length keys) × (bytes ≡ length (key_lines keys)) × (count ≤ 33554432) × (bytes ≤ 90000000)

-- their lines put into `s` from `at` to `next`, which makes it `t`
abbrev pub Written : (at : ℕ) → List (List ℕ) → (s : List ℕ) → (next : ℕ) → (t : List ℕ) → Type 0
Written at keys s next t = (next ≡ at + length (key_lines keys)) × (t ≡ put_at at (key_lines keys) s)

pub lines_more : (keys : List (List ℕ)) (k : List ℕ) → key_lines (keys ++ k ∷ []) ≡ key_lines keys ++ listed (spaced k ∷ [])
lines_more keys k = ap listed (map-append spaced keys (k ∷ [])) ∙ listed-append (map spaced keys) (spaced k ∷ [])

pub line-length : (k : List ℕ) → length (listed (spaced k ∷ [])) ≡ 3 + length k
unfolding listed
line-length k = joined_length (ascii "  " ∷ spaced k ∷ ascii "\n" ∷ []) ∙ (omega (arith, spaced-length k))

pub lines-most : (keys : List (List ℕ)) (m : ℕ) → length (key_lines (take m keys)) ≤ length (key_lines keys)
lines-most keys m =
    let cut : key_lines keys ≡ key_lines (take m keys) ++ key_lines (drop m keys) =
    ap key_lines (sym (take-append-drop m keys)) ∙ ap listed (map-append spaced (take m keys) (drop m keys)) ∙ listed-append (map spaced (take m keys)) (map spaced (drop m keys)) in
    omega (arith, ap length cut, length-append (key_lines (take m keys)) (key_lines (drop m keys)))

-- ---- some keys, then the others

pub lines-append : (ks js : List (List ℕ)) → key_lines (ks ++ js) ≡ key_lines ks ++ key_lines js
lines-append ks js = ap listed (map-append spaced ks js) ∙ listed-append (map spaced ks) (map spaced js)

module _ (here mine rest : List (List ℕ)) (e : here ≡ mine ++ rest) where
  pub count-step : length here ≡ length mine + length rest
  count-step = ap length e ∙ length-append mine rest

  pub bytes_step : length (key_lines here) ≡ length (key_lines mine) + length (key_lines rest)
  bytes_step = ap (λ ks. length (key_lines ks)) e ∙ ap length (lines-append mine rest) ∙ length-append (key_lines mine) (key_lines rest)

  -- what is still to be put, after some lines
  pub put_step : (at next : ℕ) (s t : List ℕ) → Written at mine s next t → at + length (key_lines here) ≤ length s → put_at next (key_lines rest) t ≡ put_at at (key_lines here) s
  put_step at next s t w h =
      let size = bytes_step in
      ap₂ (λ n x. put_at n (key_lines rest) x) w.0 w.1
      ∙ put_next at (key_lines mine) (key_lines rest) s (omega arith)
      ∙ ap (λ x. put_at at x s) (sym (ap key_lines e ∙ lines-append mine rest))

-- no key has no line
pub none_lines : (ks : List (List ℕ)) → ks ≡ [] → key_lines ks ≡ []
unfolding listed
none_lines ks e = ap key_lines e

pub none_bytes : (ks : List (List ℕ)) → ks ≡ [] → length (key_lines ks) ≡ 0
unfolding listed
none_bytes ks e = ap (λ js. length (key_lines js)) e

pub put-end : (at : ℕ) (ks : List (List ℕ)) (s : List ℕ) → ks ≡ [] → put_at at (key_lines ks) s ≡ s
unfolding listed
put-end at ks s e = ap (λ js. put_at at (key_lines js) s) e ∙ put-none at s

pub written_none : (at : ℕ) (s : List ℕ) → Written at [] s at s
unfolding listed
written_none at s = (omega arith, sym (put-none at s))

pub written_same : (at : ℕ) (s : List ℕ) {next : ℕ} {t : List ℕ} (ks js : List (List ℕ)) → ks ≡ js → Written at js s next t → Written at ks s next t
written_same at s ks js e w = (w.0 ∙ ap (λ is. at + length (key_lines is)) (sym e), w.1 ∙ ap (λ is. put_at at (key_lines is) s) (sym e))

-- a buffer keeps its length
pub written-length : (at next : ℕ) (ks : List (List ℕ)) (s t : List ℕ) → Written at ks s next t → at + length (key_lines ks) ≤ length s → length t ≡ length s
written-length at next ks s t w h = ap length w.1 ∙ put-length at (key_lines ks) s h

-- the sizes of no key and of one
pub sizes-none : (ks : List (List ℕ)) → ks ≡ [] → (0 ≡ length ks) × (0 ≡ length (key_lines ks))
sizes-none ks e = (omega (arith, ap length e), omega (arith, none_bytes ks e))

pub sizes_key : (k : List ℕ) → (1 ≡ length (k ∷ [])) × (3 + length k ≡ length (key_lines (k ∷ [])))
sizes_key k = (omega arith, sym (line-length k))

pub sizes-one : (ks : List (List ℕ)) (s : List ℕ) (a b : ℕ) → (a ≤ b) × (b ≤ length s) → ks ≡ part a b s ∷ [] → (1 ≡ length ks) × (3 + (b - a) ≡ length (key_lines ks))
sizes-one ks s a b h e =
    (omega (arith, ap length e), omega (arith, ap (λ js. length (key_lines js)) e, line-length (part a b s), part_length s a b h))
