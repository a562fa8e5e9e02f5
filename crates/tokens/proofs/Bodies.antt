-- One step of the search for each token's end, at a place `i` of a text `s`: what the loops cite. Each is its definition at the byte there.
use mathlib.Core.Path.{◌≡◌, refl}
use mathlib.Core.Logic.{◌≢◌}
use mathlib.Core.Bool.{Bool, true, false, ◌&&◌}
use mathlib.Core.List.{List}
use Prim.Native.Nat.{ℕ, suc, ◌+◌, ◌≤◌, ◌<◌}
use native.Mathlib.Numerals.{add-one}
use borrow.Author.Tests.{eq-eqb, ne_eqb, le-leb, lt-leb}
use lib.Dec.{eqb}
use mathlib.Core.Bool.{Bool, true, false, ◌&&◌, and-false}
use lib.ListN.{length, get_or, drop, drop_of_length-le}
use Rattle.text_rules.specs.Classes.{backslash, hash, quote, slash, star}
use Rattle.text_rules.proofs.ScanLaws.{run_more, run-stop, split}
use Rattle.source_rules.specs.Blank.{block_length, hashes, raw_length, string_length}

module _ (s : List ℕ) (i : ℕ) (h : i < length s) where
  pub hashes-more : get_or s i 0 ≡ hash → hashes (drop i s) ≡ suc (hashes (drop (i + 1) s))
  hashes-more e = run_more s i h (λ (b : ℕ). eqb b hash) (eq-eqb (get_or s i 0) hash e)

  pub hashes-stop : get_or s i 0 ≢ hash → hashes (drop i s) ≡ 0
  hashes-stop e = run-stop s i h (λ (b : ℕ). eqb b hash) (ne_eqb (get_or s i 0) hash e)

  pub string_skip : string_length true (drop i s) ≡ suc (string_length false (drop (i + 1) s))
  unfolding string_length
  string_skip = rw (split s i h)

  pub string_close : get_or s i 0 ≡ quote → string_length false (drop i s) ≡ 1
  unfolding string_length
  string_close e = rw (split s i h, eq-eqb (get_or s i 0) quote e, string_length)

  pub string_on : get_or s i 0 ≢ quote → string_length false (drop i s) ≡ suc (string_length (eqb (get_or s i 0) backslash) (drop (i + 1) s))
  unfolding string_length
  string_on e = rw (split s i h, ne_eqb (get_or s i 0) quote e, string_length)

  -- d comments are open inside, and p is the byte before
  module _ (d p : ℕ) where
    pub block_open : (eqb p slash && eqb (get_or s i 0) star) ≡ true → block_length d p (drop i s) ≡ suc (block_length (d + 1) 0 (drop (i + 1) s))
    unfolding block_length
    block_open e = rw (split s i h, e, block_length, add-one d)

    module _ (o : (eqb p slash && eqb (get_or s i 0) star) ≡ false) where
      pub block_on : (eqb p star && eqb (get_or s i 0) slash) ≡ false → block_length d p (drop i s) ≡ suc (block_length d (get_or s i 0) (drop (i + 1) s))
      unfolding block_length
      block_on e = rw (split s i h, o, block_length, e)

      pub block_close : (eqb p star && eqb (get_or s i 0) slash) ≡ true → d ≡ 0 → block_length d p (drop i s) ≡ 1
      unfolding block_length
      block_close e z = rw (split s i h, o, block_length, e, z)

      pub block-less : (eqb p star && eqb (get_or s i 0) slash) ≡ true → (e : ℕ) → d ≡ suc e → block_length d p (drop i s) ≡ suc (block_length e 0 (drop (i + 1) s))
      unfolding block_length
      block-less t e z = rw (split s i h, o, block_length, t, z)

  -- n hashes close
  module _ (n : ℕ) where
    pub raw_close : get_or s i 0 ≡ quote → n ≤ hashes (drop (i + 1) s) → raw_length n (drop i s) ≡ suc n
    unfolding raw_length
    raw_close e l = rw (split s i h, eq-eqb (get_or s i 0) quote e, raw_length, le-leb n (hashes (drop (i + 1) s)) l)

    pub raw_short : get_or s i 0 ≡ quote → hashes (drop (i + 1) s) < n → raw_length n (drop i s) ≡ suc (raw_length n (drop (i + 1) s))
    unfolding raw_length
    raw_short e l = rw (split s i h, eq-eqb (get_or s i 0) quote e, raw_length, lt-leb n (hashes (drop (i + 1) s)) l)

    pub raw_other : get_or s i 0 ≢ quote → raw_length n (drop i s) ≡ suc (raw_length n (drop (i + 1) s))
    unfolding raw_length
    raw_other e = rw (split s i h, ne_eqb (get_or s i 0) quote e, raw_length)

-- nothing is left at the end
module _ (s : List ℕ) (i : ℕ) (h : length s ≤ i) where
  pub string_end : (skip : Bool) → string_length skip (drop i s) ≡ 0
  unfolding string_length
  string_end skip = rw (drop_of_length-le s h)

  pub block-end : (d p : ℕ) → block_length d p (drop i s) ≡ 0
  unfolding block_length
  block-end d p = rw (drop_of_length-le s h)

  pub raw_end : (n : ℕ) → raw_length n (drop i s) ≡ 0
  unfolding raw_length
  raw_end n = rw (drop_of_length-le s h)

-- two bytes are a given pair, or one of them is another
module _ (a b x y : ℕ) where
  pub pair_there : a ≡ x → b ≡ y → (eqb a x && eqb b y) ≡ true
  pair_there e f = rw (eq-eqb a x e, eq-eqb b y f) refl

  pub other-first : a ≢ x → (eqb a x && eqb b y) ≡ false
  other-first e = rw (ne_eqb a x e) refl

  pub other-second : b ≢ y → (eqb a x && eqb b y) ≡ false
  other-second e = rw (ne_eqb b y e) (and-false (eqb a x))
