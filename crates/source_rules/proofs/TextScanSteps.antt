-- The search for functions at a byte of a text: the span there, whether the word `fn` stands there, and the step past a byte where no
-- function is found.
use Rattle.std.specs.Prelude.{ℕ, zero, suc, pred, ◌+◌, ◌-◌, ◌≤◌, ◌<◌, ◌≡◌, refl, ◌≢◌, Bool, false, not, ◌&&◌, List, [], ◌∷◌, eqb, length, drop, get_or}
use Rattle.std.proofs.Math.Path.{ap}
use Rattle.std.proofs.Common.{sym, ◌∙◌, drop-cons, drop-drop}
use Rattle.std.proofs.Math.Logic.{inl, inr}
use Rattle.std.proofs.Math.Bool.{true, and-false}
use Rattle.std.proofs.Math.Option.{none, some}
use Rattle.std.proofs.Math.Numerals.{add-one, sub-one}
use native.Mathlib.Omega.{arith}
use borrow.Author.Tests.{eqb-true, lt-ltb, ne_eqb}
use Rattle.std.proofs.Math.ListN.{length-drop}
use Rattle.text_rules.specs.Bytes.{◌or_else◌, ascii, if◌then◌otherwise◌}
use Rattle.text_rules.specs.BytesLaws.{and_left, whether}
use Rattle.text_rules.specs.Classes.{class_of, hash, is_space, is_word, lf}
use Rattle.text_rules.specs.Search.{count_after, run, starts_with}
use Rattle.text_rules.proofs.StartsLaws.{starts-length}
use Rattle.source_rules.specs.Finding.{Places, block_end, function_at, function_from, is_fn, name_end, name_start, span_length}
use Rattle.source_rules.proofs.PlaceLaws.{block-moved, block_from, function_moved, moved_none, moved-some, moved_places, places-none, places-some}
use Rattle.source_rules.specs.TextScan.{functions_from, sought}
use Rattle.source_rules.proofs.WalkSteps.{functions-none}

-- where the name begins and ends that follows an `fn` at a place
pub name-from : (s : List ℕ) (at : ℕ) → at + 2 + run is_space (drop (at + 2) s) ≡ at + name_start (drop at s)
unfolding name_start
name-from s at = omega (arith, ap (run is_space) (drop-drop 2 at s))

pub name-to : (s : List ℕ) (at : ℕ) → at + name_start (drop at s) + run is_word (drop (at + name_start (drop at s)) s) ≡ at + name_end (drop at s)
unfolding name_end
name-to s at = omega (arith, ap (run is_word) (drop-drop (name_start (drop at s)) at s))

-- the function at a place, by the brackets after its name
module _ (s : List ℕ) (at : ℕ) (h : name_start (drop at s) < name_end (drop at s)) where
  named : function_from (at + name_start (drop at s)) (at + name_end (drop at s)) s ≡ moved_places at (function_at (drop at s))
  unfolding function_at
  named = rw (lt-ltb _ _ h) (function_moved at (name_start (drop at s)) (name_end (drop at s)) s)

  pub no_function : function_from (at + name_start (drop at s)) (at + name_end (drop at s)) s ≡ none → function_at (drop at s) ≡ none
  no_function e = places-none at (function_at (drop at s)) (sym named ∙ e)

  pub function_at_lem : (q : Places) → function_from (at + name_start (drop at s)) (at + name_end (drop at s)) s ≡ some q → (p : Places) × (function_at (drop at s) ≡ some p) × (moved_places at (some p) ≡ some q)
  function_at_lem q e = places-some at (function_at (drop at s)) q (sym named ∙ e)

-- the byte before a place, 0 at the start
abbrev pub byte_before : List ℕ → ℕ → ℕ
byte_before s at = get_or (0 ∷ s) at 0

-- no fn stands behind a letter, digit or _
pub no_fn : (prev : ℕ) (s : List ℕ) → is_word prev ≡ true → is_fn prev s ≡ false
unfolding is_fn
no_fn prev s e = rw (e, and-false (starts_with (ascii "fn") s))

-- so one byte to skip behind such a byte is none
skip_one : (span_at : List ℕ → ℕ) (at line span_left prev : ℕ) (s : List ℕ) → is_word prev ≡ true → functions_from span_at at line span_left 1 prev s ≡ functions_from span_at at line span_left 0 prev s
unfolding functions_from sought
skip_one span_at at line span_left prev [] e = refl
skip_one span_at at line span_left prev (b ∷ s) e = rw (no_fn prev (b ∷ s) e, and-false (eqb (span_left or_else span_at (b ∷ s)) 0 && eqb 1 0), and-false (eqb (span_left or_else span_at (b ∷ s)) 0 && eqb 0 0))

skip_past : (span_at : List ℕ → ℕ) (at line span_left skip_left prev : ℕ) (s : List ℕ) (word : Bool) → (word ≡ true → is_word prev ≡ true)
    → functions_from span_at at line span_left (pred (skip_left or_else (if word then 2 otherwise 1))) prev s ≡ functions_from span_at at line span_left (pred skip_left) prev s
skip_past span_at at line span_left zero prev s true e = skip_one span_at at line span_left prev s (e refl)
skip_past span_at at line span_left zero prev s false e = refl
skip_past span_at at line span_left (suc n) prev s word e = refl

-- the byte at the head of an `fn` is an f
head_f : (prev b : ℕ) (s : List ℕ) → is_fn prev (b ∷ s) ≡ true → b ≡ 102
unfolding is_fn starts_with
head_f prev b s e = eqb-true b 102 (and_left (eqb b 102) _ (and_left (starts_with (ascii "fn") (b ∷ s)) (not (is_word prev)) (and_left _ (not (is_word (get_or (b ∷ s) 2 0))) e)))

module _ (s : List ℕ) (at : ℕ) (h : at < length s) where
  abbrev b : ℕ
  b = get_or s at 0

  pub fn_byte : (prev : ℕ) → is_fn prev (drop at s) ≡ true → b ≡ 102
  fn_byte prev e = let q : is_fn prev (get_or s at 0 ∷ drop (suc at) s) ≡ true = rw (drop-cons s at 0 h) at e in head_f prev (get_or s at 0) (drop (suc at) s) q

  pub fn_inside : (prev : ℕ) → is_fn prev (drop at s) ≡ true → at + 2 ≤ length s
  unfolding is_fn
  fn_inside prev e =
      let f : starts_with (ascii "fn") (drop at s) ≡ true = and_left _ (not (is_word prev)) (and_left _ (not (is_word (get_or (drop at s) 2 0))) e) in
      omega (arith, starts-length (ascii "fn") (drop at s) f, length-drop at s)

  pub other_byte : (prev : ℕ) → b ≢ 102 → is_fn prev (drop at s) ≡ false
  other_byte prev n = elim (whether (is_fn prev (drop at s))) [ inl e ↦ absurd (n (fn_byte prev e)) | inr e ↦ e ]

  -- the spans that begin at the byte
  pub no-mark : starts_with (ascii "#[cfg(test)]") (drop at s) ≡ false → span_length (drop at s) ≡ 0
  unfolding span_length
  no-mark e = rw e

  pub no-hash : b ≢ hash → span_length (drop at s) ≡ 0
  unfolding starts_with
  no-hash n = no-mark (rw (drop-cons s at 0 h, starts_with, ne_eqb b hash n))

  pub no_span : block_from s at ≡ none → span_length (drop at s) ≡ 0
  unfolding span_length
  no_span e =
      let f : block_end (drop at s) ≡ none = moved_none at (block_end (drop at s)) (sym (block-moved at s) ∙ e) in
      elim (whether (starts_with (ascii "#[cfg(test)]") (drop at s))) [ inl t ↦ rw (t, f) | inr t ↦ rw t ]

  pub span_to : (closed : ℕ) → starts_with (ascii "#[cfg(test)]") (drop at s) ≡ true → block_from s at ≡ some closed → closed - at ≡ span_length (drop at s)
  unfolding span_length
  span_to closed t e =
      let (m, f, q) = moved-some at (block_end (drop at s)) closed (sym (block-moved at s) ∙ e) in
      let r : closed - at ≡ m = omega arith in
      rw (t, f) r

  -- past a byte where no function is found
  module _ (span_at : List ℕ → ℕ) (line span_left skip_left : ℕ) where
    abbrev span : ℕ
    span = span_left or_else span_at (drop at s)

    pub functions-past : sought span skip_left (byte_before s at) (drop at s) ≡ none → functions_from span_at at line span_left skip_left (byte_before s at) (drop at s)
        ≡ functions_from span_at (at + 1) (count_after lf b line) (span - 1) (skip_left - 1) (byte_before s (at + 1)) (drop (at + 1) s)
    unfolding class_of
    functions-past e =
        let f : is_fn (byte_before s at) (drop at s) ≡ true → is_word b ≡ true = λ w. ap is_word (fn_byte (byte_before s at) w) in
        rw (sub-one span, sub-one skip_left, add-one at)
        (rw (add-one at) at (functions-none s at h span_at line span_left skip_left (byte_before s at) e) ∙ skip_past span_at (suc at) (count_after lf b line) (pred span) skip_left b (drop (suc at) s) (is_fn (byte_before s at) (drop at s)) f)
