-- The stale keys taken batch by batch: the lines of a batch, what was taken, and what is left.
use Prim.Native.Nat.{ℕ, zero, suc, ◌+◌, ◌-◌, ◌≤◌, ◌<◌, min}
use mathlib.Core.Path.{◌≡◌, refl, ap, ap₂, subst, sym, ◌∙◌}
use mathlib.Core.List.{List, [], ◌∷◌, ◌++◌}
use mathlib.Core.Option.{Option as MathOption, none, some}
use native.Mathlib.Numerals.{add-one}
use native.Mathlib.Omega.{arith}
use lib.ListN.{length, take, drop, get_or, length-append, length-drop, length-take, take-append-drop}
use lib.Seq.{drop-cons, drop-drop, take-add, take_all, take-suc, take-take}
use Rattle.text_rules.specs.Bytes.{before, kept}
use Rattle.text_rules.specs.Selection.{Rising}
use Rattle.gate_rules.specs.Baseline.{Entry}
use Rattle.gate_rules.specs.Check.{listed, spaced, stale}
use Rattle.gate_rules.specs.Functions.{Fun}
use Rattle.gate_rules.proofs.StaleLaws.{stale-rising}
use Rattle.order.specs.Best.{last_of}
use Rattle.listed_keys.specs.KeyLines.{key_lines, line-length, lines-append, lines_more}
use Rattle.in_order.specs.StaleKeys.{behind}
use Rattle.batches.specs.Behind.{past}

lines-some : (ks : List (List ℕ)) → 0 < length ks → 0 < length (key_lines ks)
lines-some [] h = absurd (omega arith)
lines-some (k ∷ ks) h = omega (arith, ap length (lines-append (k ∷ []) ks), length-append (key_lines (k ∷ [])) (key_lines ks), line-length k)

-- the lines of keys, one by one
module _ (keys : List (List ℕ)) (i : ℕ) (k : i < length keys) where
  pub bytes_next : length (key_lines (take (i + 1) keys)) ≡ length (key_lines (take i keys)) + (3 + length (get_or keys i []))
  bytes_next =
      let one = get_or keys i [] in
      let next : key_lines (take (i + 1) keys) ≡ key_lines (take i keys) ++ listed (spaced one ∷ []) =
      ap (λ n. key_lines (take n keys)) (add-one i) ∙ ap key_lines (take-suc keys i [] (omega arith)) ∙ lines_more (take i keys) one in
      ap length next ∙ length-append (key_lines (take i keys)) (listed (spaced one ∷ [])) ∙ ap (λ n. length (key_lines (take i keys)) + n) (line-length one)

  pub rest_next : key_lines (drop i keys) ≡ key_lines (get_or keys i [] ∷ []) ++ key_lines (drop (i + 1) keys)
  rest_next =
      ap key_lines (drop-cons keys i [] (omega arith) ∙ ap (λ j. get_or keys i [] ∷ drop j keys) (sym (add-one i)))
      ∙ lines-append (get_or keys i [] ∷ []) (drop (i + 1) keys)

-- the first keys of a batch are all of it
pub batch_is : (ks js : List (List ℕ)) → take 8192 ks ≡ take 8192 js → length ks ≤ 8192 → ks ≡ take 8192 js
batch_is ks js e h = sym (take_all 8192 ks h) ∙ e

-- the last element of a list
module _ {A : Type 0} where
  last-behind : (xs ys : List A) → 0 < length ys → last_of (xs ++ ys) ≡ last_of ys
  last-behind [] ys h = refl
  last-behind (x ∷ []) [] h = absurd (omega arith)
  last-behind (x ∷ []) (y ∷ ys) h = refl
  last-behind (x ∷ z ∷ xs) ys h = last-behind (z ∷ xs) ys h

  last_get : (ys : List A) (i : ℕ) (d : A) → length ys ≡ suc i → last_of ys ≡ some (get_or ys i d)
  last_get [] i d e = absurd (omega (arith, e))
  last_get (y ∷ []) zero d e = refl
  last_get (y ∷ []) (suc i) d e = absurd (omega (arith, e))
  last_get (y ∷ z ∷ ys) zero d e = absurd (omega (arith, e))
  last_get (y ∷ z ∷ ys) (suc i) d e = last_get (z ∷ ys) i d (omega (arith, e))

module _ (es : List Entry) (fs : List Fun) where
  -- the first keys were taken, so many, and this is the last of them
  pub record Reached (last : MathOption (List ℕ)) (count : ℕ) : Type 0 where
    pub last_taken : last ≡ last_of (take count (stale es fs))
    pub few : count ≤ length (stale es fs)

  pub reached-none : Reached none 0
  reached-none = record { last_taken = refl; few = omega arith }

  module _ (last : MathOption (List ℕ)) (count : ℕ) (r : Reached last count) (ks : List (List ℕ)) (p : ks ≡ take 8192 (kept (behind last) (stale es fs))) where
    left : kept (behind last) (stale es fs) ≡ drop count (stale es fs)
    left =
        let keys = stale es fs in
        let cut : take count keys ++ drop count keys ≡ keys = take-append-drop count keys in
        ap (λ o. kept (behind o) keys) r.last_taken
        ∙ ap (kept (behind (last_of (take count keys)))) (sym cut)
        ∙ past (take count keys) (drop count keys) (subst (Rising before) (sym cut) (stale-rising es fs))

    batch : ks ≡ take 8192 (drop count (stale es fs))
    batch = p ∙ ap (take 8192) left

    size : length ks ≡ min 8192 (length (stale es fs) - count)
    size = ap length batch ∙ length-take 8192 (drop count (stale es fs)) ∙ ap (min 8192) (length-drop count (stale es fs))

    first : take (length ks) (drop count (stale es fs)) ≡ ks
    first =
        let rest = drop count (stale es fs) in
        sym (take-take (length ks) 8192 rest (omega (arith, size))) ∙ ap (take (length ks)) (sym batch) ∙ take_all (length ks) ks (omega arith)

    -- with a batch more
    pub more : count + length ks ≤ length (stale es fs)
    more = omega (arith, size, r.few)

    together : take (count + length ks) (stale es fs) ≡ take count (stale es fs) ++ ks
    together = take-add count (length ks) (stale es fs) ∙ ap (λ js. take count (stale es fs) ++ js) first

    pub lines-together : key_lines (take (count + length ks) (stale es fs)) ≡ key_lines (take count (stale es fs)) ++ key_lines ks
    lines-together = ap key_lines together ∙ lines-append (take count (stale es fs)) ks

    pub bytes_together : length (key_lines (take (count + length ks) (stale es fs))) ≡ length (key_lines (take count (stale es fs))) + length (key_lines ks)
    bytes_together = ap length lines-together ∙ length-append (key_lines (take count (stale es fs))) (key_lines ks)

    -- the lines that are left, after the batch
    pub rest-together : key_lines (drop count (stale es fs)) ≡ key_lines ks ++ key_lines (drop (count + length ks) (stale es fs))
    rest-together =
        let rest = drop count (stale es fs) in
        let cut : take (length ks) rest ++ drop (length ks) rest ≡ rest = take-append-drop (length ks) rest in
        ap key_lines (sym cut ∙ ap₂ (λ x y. x ++ y) first (drop-drop (length ks) count (stale es fs))) ∙ lines-append ks (drop (count + length ks) (stale es fs))

    -- a batch that leaves a place free is the last one
    pub all-taken : length ks < 8192 → (take (count + length ks) (stale es fs) ≡ stale es fs) × (count + length ks ≡ length (stale es fs))
    all-taken h =
        let n : count + length ks ≡ length (stale es fs) = omega (arith, size, r.few) in
        (take_all (count + length ks) (stale es fs) (omega (arith, n)), n)

    -- and one that does not has a last key, and lines
    module _ (h : 8192 ≤ length ks) where
      full : length ks ≡ suc 8191
      full = omega (arith, h, size)

      pub reached-more : (key : List ℕ) → key ≡ get_or ks 8191 [] → Reached (some key) (count + length ks)
      reached-more key e =
          record {
            last_taken = ap some e ∙ sym (
                ap last_of together
                ∙ last-behind (take count (stale es fs)) ks (omega (arith, full))
                ∙ last_get ks 8191 [] full
                );
            few = more;
          }

      pub bytes_more : 0 < length (key_lines ks)
      bytes_more = lines-some ks (omega (arith, full))
