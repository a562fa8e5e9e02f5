-- One step of each walk at a place of a text, and its end: what a loop over a slice cites.
-- A walk at place `at` goes over `drop at s`; its step reads the byte at the place and goes on at the next.
use Rattle.std.specs.Prelude.{ℕ, suc, pred, ◌+◌, ◌-◌, ◌<◌, ◌≤◌, max, ◌≡◌, ◌≢◌, true, false, ◌&&◌, List, [], ◌∷◌, length, drop, get_or}
use Rattle.std.proofs.Math.Path.{ap}
use Rattle.std.proofs.Common.{sym, ◌∙◌, add-one, sub-one, drop_of_length-le}
use Rattle.std.proofs.Math.Logic.{inl, inr}
use Rattle.std.proofs.Math.Bool.{and-false}
use Rattle.std.proofs.Math.Option.{none, some}
use borrow.Author.Tests.{eq-eqb, ne_eqb}
use Rattle.std.proofs.Math.Dec.{eqb}
use Rattle.std.proofs.Math.Seq.{drop-cons}
use Rattle.text_rules.specs.Bytes.{◌or_else◌, if◌then◌otherwise◌}
use Rattle.text_rules.specs.BytesLaws.{whether}
use Rattle.text_rules.specs.Classes.{brace_close, brace_open, comma, lf, semicolon, square_close, square_open}
use Rattle.text_rules.specs.Search.{count_after, find}
use Rattle.source_rules.specs.Brackets.{depth_after, partner}
use Rattle.source_rules.proofs.BracketsLaws.{depth_close, depth_open, depth-other}
use Rattle.source_rules.specs.Finding.{Places, angle_after, body_at, flat, function_at, is_fn}
use Rattle.source_rules.specs.Measures.{cyclomatic_from, decides, deepest, line_at, piece_length}
use Rattle.source_rules.specs.Parameters.{is_closing, is_opening, parts_from}
use Rattle.source_rules.specs.TextScan.{found_then, functions_from, measured, sought, step_past}

-- steps
module _ (s : List ℕ) (at : ℕ) (h : at < length s) where
  abbrev b : ℕ
  b = get_or s at 0

  abbrev rest : List ℕ
  rest = drop (at + 1) s

  pub find-step : (x : ℕ) → find x at (drop at s) ≡ (if eqb b x then some at otherwise find x (at + 1) rest)
  unfolding find
  find-step x = rw (add-one at) (ap (find x at) (drop-cons s at 0 h))

  pub partner-step : (o c d : ℕ) → partner o c d at (drop at s) ≡ (if eqb b c && eqb d 0 then some at otherwise partner o c (depth_after o c b d) (at + 1) rest)
  unfolding partner
  partner-step o c d = rw (add-one at) (ap (partner o c d at) (drop-cons s at 0 h))

  pub body-step : (angle opened closed : ℕ) → body_at angle opened closed at (drop at s)
      ≡ (if flat angle opened closed && eqb b brace_open then some at otherwise if flat angle opened closed && eqb b semicolon then none otherwise body_at (angle_after b angle) (count_after square_open b opened) (count_after square_close b closed) (at + 1) rest)
  unfolding body_at
  body-step angle opened closed = rw (add-one at) (ap (body_at angle opened closed at) (drop-cons s at 0 h))

  pub line_step : (n : ℕ) → line_at n (drop at s) ≡ line_at (count_after lf b n) rest
  unfolding line_at
  line_step n = rw (add-one at) (ap (line_at n) (drop-cons s at 0 h))

  pub deepest-step : (reached depth : ℕ) → deepest reached depth (drop at s) ≡ deepest (max reached (depth_after brace_open brace_close b depth)) (depth_after brace_open brace_close b depth) rest
  unfolding deepest
  deepest-step reached depth = rw (add-one at) (ap (deepest reached depth) (drop-cons s at 0 h))

  pub cyclomatic-step : (n : ℕ) → cyclomatic_from n 0 (drop at s) ≡ cyclomatic_from (if decides (drop at s) then suc n otherwise n) (pred (piece_length (drop at s))) rest
  unfolding cyclomatic_from
  cyclomatic-step n = rw (add-one at, drop-cons s at 0 h)

  pub parts-step : (n opened closed : ℕ) → parts_from n opened closed (drop at s)
      ≡ parts_from (if eqb b comma && eqb opened closed then suc n otherwise n) (if is_opening b then suc opened otherwise opened) (if is_closing b then suc closed otherwise closed) rest
  unfolding parts_from
  parts-step n opened closed = rw (add-one at) (ap (parts_from n opened closed) (drop-cons s at 0 h))

  pub functions-step : (span_at : List ℕ → ℕ) (line span_left skip_left prev : ℕ)
      → let span = span_left or_else span_at (drop at s) in
      let found = sought span skip_left prev (drop at s) in
      functions_from span_at at line span_left skip_left prev (drop at s)
      ≡ found_then at line (drop at s) found (functions_from span_at (at + 1) (count_after lf b line) (pred span) (pred (step_past (is_fn prev (drop at s)) skip_left found)) b rest)
  unfolding functions_from
  functions-step span_at line span_left skip_left prev = rw (add-one at, drop-cons s at 0 h)

  -- the four ways of a partner's step
  module _ (o c d : ℕ) where
    pub partner-found : b ≡ c → d ≡ 0 → partner o c d at (drop at s) ≡ some at
    partner-found e z = partner-step o c d ∙ rw (eq-eqb b c e, eq-eqb d 0 z)

    pub partner_open : o ≢ c → b ≡ o → partner o c d at (drop at s) ≡ partner o c (d + 1) (at + 1) rest
    partner_open n e = partner-step o c d ∙ rw (ne_eqb b c (λ k. n (sym e ∙ k)), depth_open o c b d (eq-eqb b o e), add-one d)

    pub partner_close : o ≢ c → b ≡ c → d ≢ 0 → partner o c d at (drop at s) ≡ partner o c (d - 1) (at + 1) rest
    partner_close n e z = partner-step o c d ∙ rw (eq-eqb b c e, ne_eqb d 0 z, depth_close o c b d (ne_eqb b o (λ k. n (sym k ∙ e))) (eq-eqb b c e), sub-one d)

    pub partner-other : b ≢ o → b ≢ c → partner o c d at (drop at s) ≡ partner o c d (at + 1) rest
    partner-other m n = partner-step o c d ∙ rw (ne_eqb b c n, depth-other o c b d (ne_eqb b o m) (ne_eqb b c n))

  -- the two ways of the search for functions
  module _ (span_at : List ℕ → ℕ) (line span_left skip_left prev : ℕ) where
    abbrev span : ℕ
    span = span_left or_else span_at (drop at s)

    pub functions-none : sought span skip_left prev (drop at s) ≡ none → functions_from span_at at line span_left skip_left prev (drop at s)
        ≡ functions_from span_at (at + 1) (count_after lf b line) (pred span) (pred (skip_left or_else (if is_fn prev (drop at s) then 2 otherwise 1))) b rest
    functions-none e = functions-step span_at line span_left skip_left prev ∙ rw e

    pub functions-some : (p : Places) → sought span skip_left prev (drop at s) ≡ some p → functions_from span_at at line span_left skip_left prev (drop at s)
        ≡ measured at line (drop at s) p ∷ functions_from span_at (at + 1) (count_after lf b line) (pred span) (pred p.body_to) b rest
    functions-some p e = functions-step span_at line span_left skip_left prev ∙ rw e

-- what is sought: nothing inside a span, where bytes are to be skipped, or where no fn stands; and else the function at the head
module _ (span_left skip_left prev : ℕ) (s : List ℕ) where
  pub sought_in_span : span_left ≢ 0 → sought span_left skip_left prev s ≡ none
  unfolding sought
  sought_in_span n = rw (ne_eqb span_left 0 n)

  pub sought-skipped : skip_left ≢ 0 → sought span_left skip_left prev s ≡ none
  unfolding sought
  sought-skipped n = elim (whether (eqb span_left 0)) [ inl e ↦ rw (e, ne_eqb skip_left 0 n) | inr e ↦ rw e ]

  pub sought-no_word : is_fn prev s ≡ false → sought span_left skip_left prev s ≡ none
  unfolding sought
  sought-no_word e = rw (e, and-false (eqb span_left 0 && eqb skip_left 0))

  pub sought_word : span_left ≡ 0 → skip_left ≡ 0 → is_fn prev s ≡ true → sought span_left skip_left prev s ≡ function_at s
  unfolding sought
  sought_word t k e = rw (eq-eqb span_left 0 t, eq-eqb skip_left 0 k, e)

-- ends
module _ (s : List ℕ) (at : ℕ) (h : length s ≤ at) where
  pub find-end : (x : ℕ) → find x at (drop at s) ≡ none
  unfolding find
  find-end x = ap (find x at) (drop_of_length-le s h)

  pub partner-end : (o c d : ℕ) → partner o c d at (drop at s) ≡ none
  unfolding partner
  partner-end o c d = ap (partner o c d at) (drop_of_length-le s h)

  pub body_end : (angle opened closed : ℕ) → body_at angle opened closed at (drop at s) ≡ none
  unfolding body_at
  body_end angle opened closed = ap (body_at angle opened closed at) (drop_of_length-le s h)

  pub line-end : (n : ℕ) → line_at n (drop at s) ≡ n
  unfolding line_at
  line-end n = ap (line_at n) (drop_of_length-le s h)

  pub deepest-end : (reached depth : ℕ) → deepest reached depth (drop at s) ≡ reached
  unfolding deepest
  deepest-end reached depth = ap (deepest reached depth) (drop_of_length-le s h)

  pub cyclomatic-end : (n skip_left : ℕ) → cyclomatic_from n skip_left (drop at s) ≡ n
  unfolding cyclomatic_from
  cyclomatic-end n skip_left = ap (cyclomatic_from n skip_left) (drop_of_length-le s h)

  pub parts-end : (n opened closed : ℕ) → parts_from n opened closed (drop at s) ≡ n
  unfolding parts_from
  parts-end n opened closed = ap (parts_from n opened closed) (drop_of_length-le s h)

  pub functions-end : (span_at : List ℕ → ℕ) (line span_left skip_left prev : ℕ) → functions_from span_at at line span_left skip_left prev (drop at s) ≡ []
  unfolding functions_from
  functions-end span_at line span_left skip_left prev = ap (functions_from span_at at line span_left skip_left prev) (drop_of_length-le s h)
