-- What holds of the functions of a text: their measures are bounded by its length, and their names stand in it, apart from one another.
use Prim.Native.Nat.{ℕ, zero, suc, pred, ◌+◌, ◌-◌, ◌*◌, ◌≤◌, ◌<◌}
use Rattle.std.specs.Prelude.{◌≡◌, refl, Bool, true, false, ◌&&◌, eqb, length, take, drop, get_or}
use Rattle.std.proofs.Common.{ap, sym, ◌∙◌, subst, inl, inr, length-drop, drop-cons, drop-drop, leb-true, eqb-true}
use mathlib.Core.List.{List, [], ◌∷◌}
use Rattle.std.proofs.Math.Option.{Option, none, some}
use native.Mathlib.Omega.{arith}
use Rattle.text_rules.specs.Bytes.{All, Plain, ◌or_else◌, if◌then◌otherwise◌, total}
use Rattle.text_rules.specs.BytesLaws.{All-map, and_left, and_right, total-most, total-same, whether}
use Rattle.text_rules.specs.Classes.{brace_open, class_of, is_digit, is_letter, is_space, is_word, lf}
use Rattle.text_rules.proofs.ClassesLaws.{digit_range_lem, letter_range}
use Rattle.text_rules.specs.Search.{count_after, part, run}
use Rattle.text_rules.proofs.SearchLaws.{drop_tail, part_length, part-short, run-all}
use Rattle.source_rules.specs.Finding.{Places, function_at, is_fn, name_end, name_start, span_length}
use Rattle.source_rules.proofs.FindingLaws.{Sound, found-sound}
use Rattle.source_rules.specs.Measures.{cyclomatic_of, lines_of, nesting_of}
use Rattle.source_rules.proofs.MeasuresLaws.{body-cyclomatic, body-lines, body-nesting, count-after, params-most}
use Rattle.source_rules.specs.TextScan.{TextFun, found_then, functions, functions_from, measured, sought, step_past}

class_low : (b : ℕ) → is_letter b ≡ false → is_digit b ≡ false → class_of b ≤ 1
unfolding class_of
class_low b l d = elim (whether (is_space b)) [ inl s ↦ rw (l, d, s, class_of) (omega arith) | inr s ↦ rw (l, d, s, class_of) (omega arith) ]

pub word_plain : (b : ℕ) → is_word b ≡ true → Plain b
word_plain b e =
    elim (whether (is_letter b)) [
      | inl l ↦ omega (arith, letter_range b l)
      | inr l ↦
          elim (whether (is_digit b)) [
            | inl d ↦ omega (arith, digit_range_lem b d)
            | inr d ↦ absurd (omega (arith, class_low b l d, leb-true 2 (class_of b) e))
          ]
    ]

-- a place in a text, where the list that is left begins, and its line
pub record Here (text : List ℕ) (at line : ℕ) (s : List ℕ) : Type 0 where
  pub rest : drop at text ≡ s
  pub inside : at ≤ length text
  pub line-least : 1 ≤ line
  pub line-most : line ≤ suc at

here-next : (text : List ℕ) (at line b : ℕ) (s : List ℕ) → Here text at line (b ∷ s) → Here text (suc at) (count_after lf b line) s
here-next text at line b s h =
    let l : length (b ∷ s) ≡ length text - at = sym (ap length h.rest) ∙ length-drop at text in
    record {
      rest = drop_tail at text b s h.rest;
      inside = omega arith;
      line-least = omega (arith, count-after lf b line, h.line-least);
      line-most = omega (arith, count-after lf b line, h.line-most);
    }

sought-found : (span_left skip_left prev : ℕ) (s : List ℕ) (p : Places) → sought span_left skip_left prev s ≡ some p → function_at s ≡ some p
unfolding sought
sought-found span_left skip_left prev s p e =
    elim (whether (eqb span_left 0 && eqb skip_left 0 && is_fn prev s)) [
      | inl t ↦ rw t at e
      | inr t ↦ let h : none ≡ some p = rw t at e in let z : ◌≡◌ {A = ℕ} 0 1 = cc in absurd (omega arith)
    ]

module _ (text : List ℕ) (P : TextFun → Type 0) (each : (at line : ℕ) (s : List ℕ) (p : Places) → Here text at line s → function_at s ≡ some p → P (measured at line s p)) where
  found_all : (at line : ℕ) (s : List ℕ) (o : Option Places) (fs : List TextFun) → Here text at line s → ((p : Places) → o ≡ some p → function_at s ≡ some p) → All P fs → All P (found_then at line s o fs)
  found_all at line s none fs h k a = a
  found_all at line s (some p) fs h k a = (each at line s p h (k p refl), a)

  -- what holds of each function that is found holds of all functions of a text
  pub all_from : (span_at : List ℕ → ℕ) (at line span_left skip_left prev : ℕ) (s : List ℕ) → Here text at line s → All P (functions_from span_at at line span_left skip_left prev s)
  unfolding functions_from
  all_from span_at at line span_left skip_left prev [] h = tt
  all_from span_at at line span_left skip_left prev (b ∷ s) h =
      found_all at line (b ∷ s) (sought (span_left or_else span_at (b ∷ s)) skip_left prev (b ∷ s)) _ h
      (λ p e. sought-found (span_left or_else span_at (b ∷ s)) skip_left prev (b ∷ s) p e)
      (all_from span_at (suc at) (count_after lf b line) _ _ b s (here-next text at line b s h))

  pub all-functions : All P (functions text)
  unfolding functions
  all-functions = all_from span_length 0 1 0 0 0 text (record { rest = refl; inside = omega arith; line-least = omega arith; line-most = omega arith })

-- what holds of a function of a text
pub record Fine (text : List ℕ) (f : TextFun) : Type 0 where
  pub name-plain : All Plain f.name
  pub name-inside : f.name_at + length f.name ≤ length text
  pub name-there : take (length f.name) (drop f.name_at text) ≡ f.name
  pub name-some : 1 ≤ length f.name
  pub line-least : 1 ≤ f.line
  pub line-most : f.line ≤ length text
  pub lines-least : 1 ≤ f.lines
  pub lines-most : f.lines ≤ length text
  pub cyclomatic-least : 1 ≤ f.cyclomatic
  pub cyclomatic-most : f.cyclomatic < length text
  pub nesting-least : 1 ≤ f.nesting
  pub nesting-most : 2 * f.nesting ≤ length text
  pub params-most : f.params ≤ length text

-- the body is a { and what follows it through its partner
body_is : (s : List ℕ) (p : Places) (so : Sound s p) → part p.body_from p.body_to s ≡ brace_open ∷ take (suc so.size) (drop (suc p.body_from) s)
body_is s p so =
    let n : p.body_to - p.body_from ≡ suc (suc so.size) = omega (arith, so.body-size) in
    let d : drop p.body_from s ≡ get_or s p.body_from 0 ∷ drop (suc p.body_from) s = drop-cons s p.body_from 0 (omega (arith, so.body-size, so.inside)) in
    ap (λ k. take k (drop p.body_from s)) n ∙ ap (take (suc (suc so.size))) (d ∙ ap (λ b. b ∷ drop (suc p.body_from) s) so.brace)

-- cyclomatic is at least 1 and less than the body's byte count; twice the nesting is at most that count
pub record Bounded (body : List ℕ) : Type 0 where
  pub cyclomatic-least : 1 ≤ cyclomatic_of body
  pub cyclomatic-most : cyclomatic_of body < length body
  pub nesting-least : 1 ≤ nesting_of body
  pub nesting-most : 2 * nesting_of body ≤ length body
  pub lines-least : 1 ≤ lines_of body
  pub lines-most : lines_of body ≤ length body

pub body_bounded : (s : List ℕ) (p : Places) → Sound s p → Bounded (part p.body_from p.body_to s)
body_bounded s p so =
    let t = drop (suc p.body_from) s in
    let c = body-cyclomatic t (suc p.body_from) so.size so.closes in
    let n = body-nesting t (suc p.body_from) so.size so.closes in
    let l = body-lines t (suc p.body_from) so.size so.closes in
    subst Bounded (sym (body_is s p so))
    (record { cyclomatic-least = c.0; cyclomatic-most = c.1; nesting-least = n.0; nesting-most = n.1; lines-least = l.0; lines-most = l.1 })

name_word : (s : List ℕ) → All Plain (part (name_start s) (name_end s) s)
unfolding name_end
name_word s =
    let n : name_start s + run is_word (drop (name_start s) s) - name_start s ≡ run is_word (drop (name_start s) s) = omega arith in
    rw n (All-map (λ b. is_word b ≡ true) Plain word_plain (take (run is_word (drop (name_start s) s)) (drop (name_start s) s)) (run-all is_word (drop (name_start s) s)))

pub fine : (text : List ℕ) (at line : ℕ) (s : List ℕ) (p : Places) → Here text at line s → function_at s ≡ some p → Fine text (measured at line s p)
unfolding measured
fine text at line s p h e =
    let so : Sound s p = found-sound s p e in
    let name = part p.name_from p.name_to s in
    let bounds = body_bounded s p so in
    let c = bounds.cyclomatic-most in
    let n = bounds.nesting-most in
    let l = bounds.lines-most in
    let in_Body = part-short p.body_from p.body_to s in
    let few = so.name-some in
    let i₁ = so.name-first in
    let i₂ = so.params-order in
    let i₃ = so.params-first in
    let i₄ = so.inside in
    let i₅ = so.body-size in
    let line-least = h.line-least in
    let line-most = h.line-most in
    let in-name : length name ≡ p.name_to - p.name_from = part_length p.name_from p.name_to s (omega arith) (omega arith) in
    let in_params : length (part p.params_from p.params_to s) ≡ p.params_to - p.params_from = part_length p.params_from p.params_to s (omega arith) (omega arith) in
    let whole : length s ≡ length text - at = sym (ap length h.rest) ∙ length-drop at text in
    let place = h.inside in
    let there : drop (at + p.name_from) text ≡ drop p.name_from s = sym (drop-drop p.name_from at text) ∙ ap (drop p.name_from) h.rest in
    record {
      name-plain = subst (λ k. All Plain (part k p.name_to s)) (sym so.name-from) (subst (λ k. All Plain (part (name_start s) k s)) (sym so.name-to) (name_word s));
      name-inside = omega arith;
      name-there = ap (λ k. take k (drop (at + p.name_from) text)) in-name ∙ ap (take (p.name_to - p.name_from)) there;
      name-some = omega arith;
      line-least = line-least;
      line-most = omega arith;
      lines-least = bounds.lines-least;
      lines-most = omega arith;
      cyclomatic-least = bounds.cyclomatic-least;
      cyclomatic-most = omega arith;
      nesting-least = bounds.nesting-least;
      nesting-most = omega arith;
      params-most = omega (arith, params-most (part p.params_from p.params_to s));
    }

pub functions-fine : (text : List ℕ) → All (Fine text) (functions text)
functions-fine text = all-functions text (Fine text) (fine text)

sought-start : (span_left skip_left prev : ℕ) (s : List ℕ) (p : Places) → sought span_left skip_left prev s ≡ some p → skip_left ≡ 0
unfolding sought
sought-start span_left skip_left prev s p e =
    elim (whether (eqb span_left 0 && eqb skip_left 0 && is_fn prev s)) [
      | inl t ↦ eqb-true skip_left 0 (and_right (eqb span_left 0) _ (and_left _ (is_fn prev s) t))
      | inr t ↦ let h : none ≡ some p = rw t at e in let z : ◌≡◌ {A = ℕ} 0 1 = cc in absurd (omega arith)
    ]

step-least : (word : Bool) (skip_left : ℕ) → skip_left ≤ (skip_left or_else (if word then 2 otherwise 1))
step-least word zero = omega arith
step-least word (suc skip_left) = omega arith

-- each step goes past the body that it found. So a measure that is never larger than the place where the body ends is, over all functions
-- of a text, together no larger than the text
module _ (w : TextFun → ℕ) (each : (at line : ℕ) (s : List ℕ) (p : Places) → Sound s p → w (measured at line s p) ≤ p.body_to) where
  total-then : (at line : ℕ) (s : List ℕ) (word : Bool) (skip_left : ℕ) (o : Option Places) (fs : List TextFun)
      → ((p : Places) → o ≡ some p → (skip_left ≡ 0) × Sound s p) → total w fs ≤ length s - 1 - pred (step_past word skip_left o) → total w (found_then at line s o fs) ≤ length s - skip_left
  total-then at line s word skip_left none fs k h = omega (arith, step-least word skip_left)
  total-then at line s word skip_left (some p) fs k h =
      let (z, so) = k p refl in
      omega (arith, so.inside, each at line s p so)

  pub total-from : (span_at : List ℕ → ℕ) (at line span_left skip_left prev : ℕ) (s : List ℕ) → total w (functions_from span_at at line span_left skip_left prev s) ≤ length s - skip_left
  unfolding functions_from
  total-from span_at at line span_left skip_left prev [] = omega arith
  total-from span_at at line span_left skip_left prev (b ∷ s) =
      let span = span_left or_else span_at (b ∷ s) in
      let o = sought span skip_left prev (b ∷ s) in
      let past = pred (step_past (is_fn prev (b ∷ s)) skip_left o) in
      total-then at line (b ∷ s) (is_fn prev (b ∷ s)) skip_left o _
      (λ p e. (sought-start span skip_left prev (b ∷ s) p e, found-sound (b ∷ s) p (sought-found span skip_left prev (b ∷ s) p e)))
      (omega (arith, total-from span_at (suc at) (count_after lf b line) (pred span) past b s))

  pub total-fits : (text : List ℕ) → total w (functions text) ≤ length text
  unfolding functions
  total-fits text = omega (arith, total-from span_length 0 1 0 0 0 text)

-- the names of a text are together no longer than the text
abbrev pub name_bytes : List TextFun → ℕ
name_bytes fs = total (λ f. length f.name) fs

name-before : (at line : ℕ) (s : List ℕ) (p : Places) → Sound s p → length (measured at line s p).name ≤ p.body_to
unfolding measured
name-before at line s p so =
    let i₀ = so.name-some in
    let i₁ = so.name-first in
    let i₂ = so.params-order in
    let i₃ = so.params-first in
    let i₄ = so.inside in
    let i₅ = so.body-size in
    omega (arith, part_length p.name_from p.name_to s (omega arith) (omega arith))

pub names-from : (span_at : List ℕ → ℕ) (at line span_left skip_left prev : ℕ) (s : List ℕ) → name_bytes (functions_from span_at at line span_left skip_left prev s) ≤ length s - skip_left
names-from = total-from (λ f. length f.name) name-before

pub names_fit_lem : (text : List ℕ) → name_bytes (functions text) ≤ length text
names_fit_lem = total-fits (λ f. length f.name) name-before

-- the cyclomatic numbers of a text are together no larger than the text
branches_before : (at line : ℕ) (s : List ℕ) (p : Places) → Sound s p → (measured at line s p).cyclomatic ≤ p.body_to
unfolding measured
branches_before at line s p so =
    let i₄ = so.inside in
    let i₅ = so.body-size in
    omega (arith, (body_bounded s p so).cyclomatic-most, part_length p.body_from p.body_to s (omega arith) (omega arith))

pub branches_fit : (text : List ℕ) → total (λ f. f.cyclomatic) (functions text) ≤ length text
branches_fit = total-fits (λ f. f.cyclomatic) branches_before

-- a text has no more functions than bytes: each has a name
pub count_fits : (text : List ℕ) → length (functions text) ≤ length text
count_fits text =
    omega (
      arith,
      names_fit_lem text,
      total-same 1 (functions text),
      total-most (λ f. 1) (λ f. length f.name) (functions text) (All-map (Fine text) (λ f. 1 ≤ length f.name) (λ f h. h.name-some) (functions text) (functions-fine text)),
    )
