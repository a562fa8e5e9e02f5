-- The two texts of check's listing by what they are made of, and their lengths by the counts and the bytes of their lines.
use Rattle.std.specs.Prelude.{ℕ, zero, suc, ◌+◌, ◌≤◌, ◌≡◌, refl, List, [], ◌∷◌, map, length}
use Rattle.std.proofs.Common.{ap, ap₂, sym, ◌∙◌, append_assoc, append-nil, arith}
use Rattle.std.proofs.Math.ListN.{length-append}
use Rattle.text_rules.specs.Bytes.{ascii, joined}
use Rattle.text_rules.specs.Decimal.{decimal}
use Rattle.text_rules.proofs.WriterLaws.{joined_length}
use Rattle.gate_rules.specs.Baseline.{Entry}
use Rattle.gate_rules.specs.Check.{listed, listing, regressions, spaced, stale, stale_text, verdict_text}
use Rattle.gate_rules.specs.Functions.{Fun, Limits}
use Rattle.listing.specs.Texts.{regression_count-length, regression_count}
use Rattle.listing.specs.Writes.{Writes, writes_then}
use Rattle.listing.specs.declared.Writer.{Writer}

-- ---- the stale entries

-- the length of the text about some entries, and about any number of them
abbrev pub some_stale : (count bytes : ℕ) → ℕ
some_stale count bytes = length (decimal count) + 35 + bytes + 26

abbrev pub stale_length : (count bytes : ℕ) → ℕ
stale_length zero bytes = 0
stale_length (suc n) bytes = some_stale (suc n) bytes

pub some-stale : (count bytes : ℕ) → 1 ≤ count → stale_length count bytes ≡ some_stale count bytes
some-stale zero bytes h = absurd (omega arith)
some-stale (suc n) bytes h = refl

abbrev pub stale_parts : (count : ℕ) (keys : List (List ℕ)) → List (List ℕ)
stale_parts count keys = decimal count ∷ ascii " baseline entries no longer exist:\n" ∷ listed (map spaced keys) ∷ ascii "run --update to drop them\n" ∷ []

parts-length : (count : ℕ) (keys : List (List ℕ)) → length (joined (stale_parts count keys)) ≡ some_stale count (length (listed (map spaced keys)))
parts-length count keys = joined_length (stale_parts count keys) ∙ (omega arith)

text-some : (keys : List (List ℕ)) → 1 ≤ length keys → joined (stale_parts (length keys) keys) ≡ stale_text keys
unfolding stale_text
text-some [] h = absurd (omega arith)
text-some (k ∷ keys) h = refl

pub stale-text : (count : ℕ) (keys : List (List ℕ)) → count ≡ length keys → 1 ≤ count → joined (stale_parts count keys) ≡ stale_text keys
stale-text count keys e h = ap (λ n. joined (stale_parts n keys)) e ∙ text-some keys (omega arith)

pub stale-some : (count : ℕ) (keys : List (List ℕ)) → count ≡ length keys → 1 ≤ count → length (stale_text keys) ≡ some_stale count (length (listed (map spaced keys)))
stale-some count keys e h = ap length (sym (stale-text count keys e h)) ∙ parts-length count keys

pub stale-none : (keys : List (List ℕ)) → length keys ≡ 0 → stale_text keys ≡ []
unfolding stale_text
stale-none [] h = refl
stale-none (k ∷ keys) h = absurd (omega arith)

pub stale-length : (keys : List (List ℕ)) → length (stale_text keys) ≡ stale_length (length keys) (length (listed (map spaced keys)))
unfolding stale_text
stale-length [] = refl
stale-length (k ∷ keys) = parts-length (length (k ∷ keys)) (k ∷ keys)

-- ---- the verdict

abbrev pub some_worse : (count bytes : ℕ) → ℕ
some_worse count bytes = 25 + length (decimal count) + bytes

abbrev pub verdict_length : (count bytes : ℕ) → ℕ
verdict_length zero bytes = 70
verdict_length (suc n) bytes = some_worse (suc n) bytes

pub some-worse : (count bytes : ℕ) → 1 ≤ count → verdict_length count bytes ≡ some_worse count bytes
some-worse zero bytes h = absurd (omega arith)
some-worse (suc n) bytes h = refl

abbrev pub verdict_parts : (count : ℕ) (lines : List (List ℕ)) → List (List ℕ)
verdict_parts count lines = regression_count count ∷ listed lines ∷ []

verdict-parts-length : (count : ℕ) (lines : List (List ℕ)) → length (joined (verdict_parts count lines)) ≡ some_worse count (length (listed lines))
verdict-parts-length count lines = joined_length (verdict_parts count lines) ∙ (omega (arith, regression_count-length count))

verdict-many : (lines : List (List ℕ)) → 1 ≤ length lines → joined (verdict_parts (length lines) lines) ≡ verdict_text lines
unfolding verdict_text
verdict-many [] h = absurd (omega arith)
verdict-many (r ∷ rs) h = simp (append_assoc, append-nil)

pub verdict-text : (count : ℕ) (lines : List (List ℕ)) → count ≡ length lines → 1 ≤ count → joined (verdict_parts count lines) ≡ verdict_text lines
verdict-text count lines e h = ap (λ n. joined (verdict_parts n lines)) e ∙ verdict-many lines (omega arith)

pub verdict-some : (count : ℕ) (lines : List (List ℕ)) → count ≡ length lines → 1 ≤ count → length (verdict_text lines) ≡ some_worse count (length (listed lines))
verdict-some count lines e h = ap length (sym (verdict-text count lines e h)) ∙ verdict-parts-length count lines

-- where nothing got worse
pub verdict-none : (lines : List (List ℕ)) → length lines ≡ 0 → verdict_text lines ≡ ascii "complexity: no function got worse, nothing new is over the thresholds\n"
unfolding verdict_text
verdict-none [] h = refl
verdict-none (r ∷ rs) h = absurd (omega arith)

pub verdict-length : (lines : List (List ℕ)) → length (verdict_text lines) ≡ verdict_length (length lines) (length (listed lines))
unfolding verdict_text
verdict-length [] = refl
verdict-length (r ∷ rs) = verdict-some (length (r ∷ rs)) (r ∷ rs) refl (omega arith)

-- ---- both

module _ (L : Limits) (es : List Entry) (fs : List Fun) where
  pub both-length : length (listing L es fs) ≡ length (stale_text (stale es fs)) + length (verdict_text (regressions L es fs))
  unfolding listing
  both-length = length-append (stale_text (stale es fs)) (verdict_text (regressions L es fs))

  -- the verdict put behind the text about the stale entries
  pub both-put : {old mid new : Writer} → Writes (stale_text (stale es fs)) old mid → Writes (verdict_text (regressions L es fs)) mid new → Writes (listing L es fs) old new
  unfolding listing
  both-put a b = writes_then a b

  -- the length of the listing by what is measured
  pub measured-length : (count bytes number size : ℕ) → count ≡ length (stale es fs) → bytes ≡ length (listed (map spaced (stale es fs)))
      → number ≡ length (regressions L es fs) → size ≡ length (listed (regressions L es fs)) → stale_length count bytes + verdict_length number size ≡ length (listing L es fs)
  measured-length count bytes number size a b c d =
      ap₂ (λ m n. m + n) (ap₂ (λ m n. stale_length m n) a b ∙ sym (stale-length (stale es fs))) (ap₂ (λ m n. verdict_length m n) c d ∙ sym (verdict-length (regressions L es fs)))
      ∙ sym both-length
