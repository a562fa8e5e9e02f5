-- Each rule at a place `i` of a text `s`: where it fits and where not, by the bytes there; and which rules the first byte leaves.
use mathlib.Core.Path.{◌≡◌, ap, sym, ◌∙◌}
use mathlib.Core.Logic.{◌⊎◌, ◌≢◌, ⊎_elim}
use mathlib.Core.Bool.{Bool, true, false, not, ◌&&◌, and-false}
use mathlib.Core.List.{List}
use Prim.Native.Nat.{ℕ, ◌+◌, ◌-◌, ◌≤◌, ◌<◌, min}
use native.Mathlib.Omega.{arith}
use borrow.Author.Tests.{eq-eqb, ne_eqb, lt-ltb, le-ltb}
use lib.Dec.{eqb, ltb}
use lib.ListN.{length, get_or, take, drop, length-drop}
use lib.Seq.{get_or-drop, drop-drop}
use Rattle.text_rules.specs.Bytes.{◌or_else◌}
use Rattle.text_rules.specs.Classes.{apostrophe, backslash, is_word, letter_b, letter_r, lf, quote, slash, star}
use Rattle.text_rules.proofs.ScanLaws.{bytes_before-more, head_at, opens_at, or_else_zero, take_same}
use Rattle.text_rules.specs.Search.{bytes_before, opens, run}
use Rattle.text_rules.proofs.SearchLaws.{in_text, run_length}
use Rattle.source_rules.specs.Blank.{block_length, block_token, char_token, escape_token, hashes, line_token, raw_length, raw_letters, raw_token, string_length, string_token, token_length}

-- a rule at the head of `d` whose first byte is not there
module _ (d : List ℕ) where
  line_other : get_or d 0 0 ≢ slash → line_token d ≡ 0
  unfolding line_token opens
  line_other e = rw (ne_eqb (get_or d 0 0) slash e, line_token)

  block-other : get_or d 0 0 ≢ slash → block_token d ≡ 0
  unfolding block_token opens
  block-other e = rw (ne_eqb (get_or d 0 0) slash e, block_token)

  string_other : get_or d 0 0 ≢ quote → string_token d ≡ 0
  unfolding string_token
  string_other e = rw (ne_eqb (get_or d 0 0) quote e, string_token)

  char_other : get_or d 0 0 ≢ apostrophe → char_token d ≡ 0
  unfolding char_token
  char_other e = rw (ne_eqb (get_or d 0 0) apostrophe e, char_token)

  letters_other : get_or d 0 0 ≢ letter_r → get_or d 0 0 ≢ letter_b → raw_letters d ≡ 0
  unfolding raw_letters opens
  letters_other e f = rw (ne_eqb (get_or d 0 0) letter_r e, ne_eqb (get_or d 0 0) letter_b f, raw_letters)

-- a raw opening at the head of `d`, after the byte `p`
module _ (p : ℕ) (d : List ℕ) where
  raw_none : raw_letters d ≡ 0 → raw_token p d ≡ 0
  unfolding raw_token
  raw_none h = rw (le-ltb 0 (raw_letters d) (omega arith), raw_token)

  raw_other : get_or d 0 0 ≢ letter_r → get_or d 0 0 ≢ letter_b → raw_token p d ≡ 0
  raw_other e f = raw_none (letters_other d e f)

  pub raw_after_word : is_word p ≡ true → raw_token p d ≡ 0
  unfolding raw_token
  raw_after_word w = rw (w, and-false (ltb 0 (raw_letters d)), raw_token)

  module _ (n : ℕ) (e : n ≡ hashes (drop (raw_letters d) d)) where
    raw_plain : get_or d (raw_letters d + n) 0 ≢ quote → raw_token p d ≡ 0
    unfolding raw_token
    raw_plain q = rw (← e, ne_eqb (get_or d (raw_letters d + n) 0) quote q, and-false (not (is_word p)), and-false (ltb 0 (raw_letters d)), raw_token)

    raw_whole : 0 < raw_letters d → is_word p ≡ false → get_or d (raw_letters d + n) 0 ≡ quote → raw_token p d ≡ raw_letters d + n + 1 + raw_length n (drop (raw_letters d + n + 1) d)
    unfolding raw_token
    raw_whole h w q = rw (← e, lt-ltb 0 (raw_letters d) h, w, eq-eqb (get_or d (raw_letters d + n) 0) quote q, raw_token, ← e)

-- each rule where it may fit
module _ (s : List ℕ) (i : ℕ) where
  module _ (a : get_or s i 0 ≡ slash) where
    comment-line : get_or s (i + 1) 0 ≡ slash → (line_token (drop i s) or_else block_token (drop i s)) ≡ bytes_before lf (drop i s)
    unfolding line_token block_token
    comment-line e = rw (opens_at s i slash slash, opens_at s i slash star, a, e, line_token, block_token) (or_else_zero (bytes_before lf (drop i s)))

    -- the two slashes are before the LF
    pub comment-rest : get_or s (i + 1) 0 ≡ slash → (line_token (drop i s) or_else block_token (drop i s)) ≡ 2 + bytes_before lf (drop (i + 2) s)
    comment-rest e =
        let h = in_text s (i + 1) (omega arith) in
        let n : i + 1 + 1 ≡ i + 2 = omega arith in
        omega (
          arith,
          comment-line e,
          bytes_before-more s i (omega arith) lf (λ x. omega arith),
          bytes_before-more s (i + 1) h lf (λ x. omega arith),
          ap (λ j. bytes_before lf (drop j s)) n,
        )

    pub comment-block : get_or s (i + 1) 0 ≡ star → (line_token (drop i s) or_else block_token (drop i s)) ≡ 2 + block_length 0 0 (drop (i + 2) s)
    unfolding line_token block_token
    comment-block e = rw (opens_at s i slash slash, opens_at s i slash star, a, e, line_token, block_token, drop-drop 2 i s)

    pub comment-none : get_or s (i + 1) 0 ≢ slash → get_or s (i + 1) 0 ≢ star → (line_token (drop i s) or_else block_token (drop i s)) ≡ 0
    unfolding line_token block_token
    comment-none e f = rw (opens_at s i slash slash, opens_at s i slash star, a, ne_eqb (get_or s (i + 1) 0) slash e, ne_eqb (get_or s (i + 1) 0) star f, line_token, block_token)

  pub string_fits : get_or s i 0 ≡ quote → string_token (drop i s) ≡ 1 + string_length false (drop (i + 1) s)
  unfolding string_token
  string_fits e = rw (head_at s i, eq-eqb (get_or s i 0) quote e, string_token, drop-drop 1 i s)

  pub letters_one : get_or s i 0 ≡ letter_r → raw_letters (drop i s) ≡ 1
  unfolding raw_letters
  letters_one e = rw (head_at s i, eq-eqb (get_or s i 0) letter_r e, raw_letters)

  module _ (e : get_or s i 0 ≢ letter_r) where
    pub letters_two : (eqb (get_or s i 0) letter_b && eqb (get_or s (i + 1) 0) letter_r) ≡ true → raw_letters (drop i s) ≡ 2
    unfolding raw_letters
    letters_two t = rw (head_at s i, ne_eqb (get_or s i 0) letter_r e, raw_letters, opens_at s i letter_b letter_r, t)

    pub letters_none : (eqb (get_or s i 0) letter_b && eqb (get_or s (i + 1) 0) letter_r) ≡ false → raw_letters (drop i s) ≡ 0
    unfolding raw_letters
    letters_none t = rw (head_at s i, ne_eqb (get_or s i 0) letter_r e, raw_letters, opens_at s i letter_b letter_r, t)

  -- the letters end at `j` and the hashes at `q`
  module _ (p : ℕ) (j : ℕ) (l : j ≡ i + raw_letters (drop i s)) where
    pub raw_no_letters : j ≡ i → raw_token p (drop i s) ≡ 0
    raw_no_letters h = raw_none p (drop i s) (omega arith)

    module _ (q : ℕ) (n : q ≡ j + hashes (drop j s)) where
      count : q - j ≡ hashes (drop (raw_letters (drop i s)) (drop i s))
      count = rw (drop-drop (raw_letters (drop i s)) i s, ← l) (omega arith)

      place : get_or (drop i s) (raw_letters (drop i s) + (q - j)) 0 ≡ get_or s q 0
      place =
          let e : i + (raw_letters (drop i s) + (q - j)) ≡ q = omega arith in
          rw (get_or-drop i s (raw_letters (drop i s) + (q - j)) 0, e)

      pub raw_no-quote : get_or s q 0 ≢ quote → raw_token p (drop i s) ≡ 0
      raw_no-quote e = raw_plain p (drop i s) (q - j) count (λ x. e (sym place ∙ x))

      pub raw_fits : j ≢ i → is_word p ≡ false → get_or s q 0 ≡ quote → raw_token p (drop i s) ≡ q + 1 - i + raw_length (q - j) (drop (q + 1) s)
      raw_fits h w e =
          let k : raw_letters (drop i s) + (q - j) + 1 ≡ q + 1 - i = omega arith in
          let f : i + (raw_letters (drop i s) + (q - j) + 1) ≡ q + 1 = omega arith in
          let d : drop (raw_letters (drop i s) + (q - j) + 1) (drop i s) ≡ drop (q + 1) s = rw (drop-drop (raw_letters (drop i s) + (q - j) + 1) i s, f) in
          omega (arith, raw_whole p (drop i s) (q - j) count (omega arith) w (place ∙ e), ap (raw_length (q - j)) d)

  -- w is the window in which an apostrophe closes an escape
  pub escape_fits : (w : List ℕ) → w ≡ take 10 (drop 2 (drop i s)) → bytes_before apostrophe w < length w → escape_token (drop i s) ≡ 3 + bytes_before apostrophe w
  unfolding escape_token
  escape_fits w e h = rw (← e, lt-ltb (bytes_before apostrophe w) (length w) h, escape_token, ← e)

  pub escape_not : (w : List ℕ) → w ≡ take 10 (drop 2 (drop i s)) → length w ≤ bytes_before apostrophe w → escape_token (drop i s) ≡ 0
  unfolding escape_token
  escape_not w e h = rw (← e, le-ltb (bytes_before apostrophe w) (length w) h, escape_token)

  pub window : (to : ℕ) → to ≡ min (i + 12) (length s) → i + 2 ≤ length s → take (to - (i + 2)) (drop (i + 2) s) ≡ take 10 (drop 2 (drop i s))
  window to e h = rw (drop-drop 2 i s) (take_same (to - (i + 2)) 10 (drop (i + 2) s) (omega (arith, length-drop (i + 2) s)))

  module _ (a : get_or s i 0 ≡ apostrophe) where
    pub char_escape : get_or s (i + 1) 0 ≡ backslash → char_token (drop i s) ≡ escape_token (drop i s)
    unfolding char_token
    char_escape e = rw (head_at s i, eq-eqb (get_or s i 0) apostrophe a, char_token, get_or-drop i s 1 0, eq-eqb (get_or s (i + 1) 0) backslash e)

    module _ (b : get_or s (i + 1) 0 ≢ backslash) where
      pub char-plain : get_or s (i + 2) 0 ≡ apostrophe → char_token (drop i s) ≡ 3
      unfolding char_token
      char-plain e = rw (head_at s i, eq-eqb (get_or s i 0) apostrophe a, char_token, get_or-drop i s 1 0, ne_eqb (get_or s (i + 1) 0) backslash b, get_or-drop i s 2 0, eq-eqb (get_or s (i + 2) 0) apostrophe e)

      pub char_none : get_or s (i + 2) 0 ≢ apostrophe → char_token (drop i s) ≡ 0
      unfolding char_token
      char_none e = rw (head_at s i, eq-eqb (get_or s i 0) apostrophe a, char_token, get_or-drop i s 1 0, ne_eqb (get_or s (i + 1) 0) backslash b, get_or-drop i s 2 0, ne_eqb (get_or s (i + 2) 0) apostrophe e)

  -- the rules that the byte at the place leaves, after the byte p
  module _ (p : ℕ) where
    abbrev here : List ℕ
    here = drop i s

    pub token_slash : get_or s i 0 ≡ slash → token_length p here ≡ (line_token here or_else block_token here)
    unfolding token_length
    token_slash e =
        let h = head_at s i ∙ e in
        rw (raw_other p here (λ x. omega arith) (λ x. omega arith), string_other here (λ x. omega arith), char_other here (λ x. omega arith), or_else_zero (block_token here))

    pub token_letter : (get_or s i 0 ≡ letter_b) ⊎ (get_or s i 0 ≡ letter_r) → token_length p here ≡ raw_token p here
    unfolding token_length
    token_letter e =
        let h = head_at s i in
        let l : letter_b ≤ get_or here 0 0 = ⊎_elim (λ x. omega arith) (λ x. omega arith) e in
        rw (line_other here (λ x. omega arith), block-other here (λ x. omega arith), string_other here (λ x. omega arith), char_other here (λ x. omega arith)) (or_else_zero (raw_token p here))

    pub token_quote : get_or s i 0 ≡ quote → token_length p here ≡ string_token here
    unfolding token_length
    token_quote e =
        let h = head_at s i ∙ e in
        rw (line_other here (λ x. omega arith), block-other here (λ x. omega arith), raw_other p here (λ x. omega arith) (λ x. omega arith), char_other here (λ x. omega arith)) (or_else_zero (string_token here))

    pub token_apostrophe : get_or s i 0 ≡ apostrophe → token_length p here ≡ char_token here
    unfolding token_length
    token_apostrophe e =
        let h = head_at s i ∙ e in
        rw (line_other here (λ x. omega arith), block-other here (λ x. omega arith), raw_other p here (λ x. omega arith) (λ x. omega arith), string_other here (λ x. omega arith))

    pub token_none : raw_token p here ≡ 0 → get_or s i 0 ≢ slash → get_or s i 0 ≢ quote → get_or s i 0 ≢ apostrophe → token_length p here ≡ 0
    unfolding token_length
    token_none r a d e =
        let h = sym (head_at s i) in
        rw (line_other here (λ x. a (h ∙ x)), block-other here (λ x. a (h ∙ x)), r, string_other here (λ x. d (h ∙ x)), char_other here (λ x. e (h ∙ x)))

    -- no other byte begins a token
    pub token_other : get_or s i 0 ≢ slash → get_or s i 0 ≢ letter_b → get_or s i 0 ≢ letter_r → get_or s i 0 ≢ quote → get_or s i 0 ≢ apostrophe → token_length p here ≡ 0
    token_other a b c d e =
        let h = sym (head_at s i) in
        token_none (raw_other p here (λ x. c (h ∙ x)) (λ x. b (h ∙ x))) a d e

-- a run stands inside the text
pub run_within : (p : ℕ → Bool) (s : List ℕ) (i : ℕ) → i ≤ length s → i + run p (drop i s) ≤ length s
run_within p s i h = omega (arith, run_length p (drop i s), length-drop i s)
