-- The step of the search at a byte, in places of the whole text.
use Prim.Native.Nat.{ℕ, zero, suc, pred, ◌+◌, ◌-◌, ◌≤◌, ◌<◌}
use Rattle.std.specs.Prelude.{◌≡◌, refl, ◌⊎◌, ◌≢◌, List, [], ◌∷◌, length, drop, ltb}
use Rattle.std.proofs.Math.Path.{ap, sym, subst}
use Rattle.std.proofs.Common.{◌∙◌, inl, inr, sub-one, le-ltb, ltb-false, ltb-true}
use Rattle.std.proofs.Math.Option.{Option, none, some}
use Rattle.std.proofs.Math.Numerals.{add-one}
use native.Mathlib.Omega.{arith}
use Rattle.std.proofs.Math.ListN.{take, get_or}
use Rattle.text_rules.specs.Bytes.{◌or_else◌}
use Rattle.text_rules.specs.BytesLaws.{whether}
use Rattle.text_rules.specs.Classes.{brace_close, brace_open, hash, is_space, is_word, lf, round_close, round_open}
use Rattle.text_rules.specs.Search.{◌and_then◌, count_after, find, part, run}
use Rattle.source_rules.specs.Brackets.{partner}
use Rattle.source_rules.specs.Finding.{Places, body_at, function_at, function_from, name_end, name_start, span_length}
use Rattle.source_rules.proofs.FindingLaws.{function_nameless}
use Rattle.source_rules.specs.Measures.{cyclomatic_of, lines_of, nesting_of}
use Rattle.source_rules.proofs.MeasuresLaws.{count-after}
use Rattle.source_rules.specs.Parameters.{params_of}
use Rattle.source_rules.proofs.PlaceLaws.{body-place, find-place, moved_places, part-rest, partner-place, places_at}
use Rattle.source_rules.specs.TextScan.{TextFun, functions_from, measured, sought}
use Rattle.source_rules.proofs.TextScanLaws.{Fine, Here, fine}
use Rattle.source_rules.proofs.TextScanSteps.{byte_before, function_at_lem, functions-past, name-from, name-to, no_function, no-hash, other_byte}
use Rattle.source_rules.proofs.WalkSteps.{functions-end, functions-some, sought_in_span, sought-no_word, sought-skipped}
use Rattle.blocks.specs.Blocks.{count-behind, count_from}
use Rattle.passing.specs.Passing.{Passed}
use Rattle.passing.specs.declared.Spot.{Spot}
use Rattle.search.specs.EndLaws.{no_body, no-partner, none-some}
use Rattle.search.specs.Place.{Absent}
use Rattle.source.specs.Cursors.{Barren, Calm, Closed, FoundAt, GivenAt, Gives, MeasuredAt, Passes, Quieter, Ready, SpanAt, Spanless, Yields, moved_to, remaining, remaining_at, state, text_fun}
use Rattle.source.specs.declared.text.Brackets.{Brackets}
use Rattle.source.specs.State.{State}
use Rattle.source.specs.declared.Found.{Found}

-- `end` is where the span at the byte ends
module _ (s : List ℕ) (at line span_end resume end : ℕ) (h : at < length s) (e : end - at ≡ (span_end - at) or_else span_length (drop at s)) where
  pub step_past : sought (end - at) (resume - at) (byte_before s at) (drop at s) ≡ none
      → remaining_at s at line span_end resume ≡ remaining_at s (at + 1) (count_after lf (get_or s at 0) line) end resume
  unfolding remaining_at
  step_past n =
      let b = get_or s at 0 in
      let p : end - at - 1 ≡ end - (at + 1) = omega arith in
      let q : resume - at - 1 ≡ resume - (at + 1) = omega arith in
      functions-past s at h span_length line (span_end - at) (resume - at) (ap (λ k. sought k (resume - at) (byte_before s at) (drop at s)) (sym e) ∙ n)
      ∙ ap (λ k. functions_from span_length (at + 1) (count_after lf b line) (k - 1) (resume - at - 1) (byte_before s (at + 1)) (drop (at + 1) s)) (sym e)
      ∙ ap (λ k. functions_from span_length (at + 1) (count_after lf b line) k (resume - at - 1) (byte_before s (at + 1)) (drop (at + 1) s)) p
      ∙ ap (λ k. functions_from span_length (at + 1) (count_after lf b line) (end - (at + 1)) k (byte_before s (at + 1)) (drop (at + 1) s)) q

  pub step-found : (p : Places) → sought (end - at) (resume - at) (byte_before s at) (drop at s) ≡ some p
      → remaining_at s at line span_end resume ≡ measured at line (drop at s) p ∷ remaining_at s (at + 1) (count_after lf (get_or s at 0) line) end (at + p.body_to)
  unfolding remaining_at
  step-found p n =
      let b = get_or s at 0 in
      let o : end - (at + 1) ≡ pred (end - at) = rw (sym (sub-one (end - at))) (omega arith) in
      let q : at + p.body_to - (at + 1) ≡ pred p.body_to = rw (sym (sub-one p.body_to)) (omega arith) in
      functions-some s at h span_length line (span_end - at) (resume - at) (byte_before s at) p (ap (λ k. sought k (resume - at) (byte_before s at) (drop at s)) (sym e) ∙ n)
      ∙ ap (λ r. measured at line (drop at s) p ∷ r) (
      ap (λ k. functions_from span_length (at + 1) (count_after lf b line) (pred k) (pred p.body_to) b (drop (at + 1) s)) (sym e)
      ∙ rw (o, q, add-one at))

-- the span at a byte: one that is open, none, or one that begins there
pub span_open : (left n : ℕ) → 0 < left → left ≡ left or_else n
span_open zero n h = absurd (omega arith)
span_open (suc left) n h = refl

pub span_none : (left n : ℕ) → n ≡ 0 → left ≡ left or_else n
span_none zero n e = sym e
span_none (suc left) n e = refl

pub span_new : (left m n : ℕ) → left ≡ 0 → m ≡ n → m ≡ left or_else n
span_new left m n z e = rw z e

-- past a byte, without a function and with one
pub record Next (s : List ℕ) (c d : State) : Type 0 where
  pub at-is : d.at ≡ c.at + 1
  pub line-is : d.line ≡ count_after lf (get_or s c.at 0) c.line
  pub span : SpanAt s c d

module _ (s : List ℕ) (c : State) (h : c.at < length s) (d : State) (next : Next s c d) where
  abbrev Remains : (at line resume : ℕ) → Type 0
  Remains at line resume = remaining_at s c.at c.line c.span_end c.resume ≡ remaining_at s at line d.span_end resume

  pub passes : d.resume ≡ c.resume → sought (d.span_end - c.at) (c.resume - c.at) (byte_before s c.at) (drop c.at s) ≡ none → remaining s c ≡ remaining s d
  unfolding remaining
  passes e n =
      subst (λ resume. Remains d.at d.line resume) (sym e)
      (subst (λ at. Remains at d.line c.resume) (sym next.at-is)
      (subst (λ line. Remains (c.at + 1) line c.resume) (sym next.line-is) (step_past s c.at c.line c.span_end c.resume d.span_end h next.span.left n)))

  pub finds : d.text ≡ s → (f : Found) (m : MeasuredAt s c.at c.line f d.resume) → sought (d.span_end - c.at) (c.resume - c.at) (byte_before s c.at) (drop c.at s) ≡ some m.places → Gives s c f d
  unfolding remaining text_fun
  finds same f m n =
      let g = m.fine in
      let line = count_after lf (get_or s c.at 0) c.line in
      record {
        yields =
            step-found s c.at c.line c.span_end c.resume d.span_end h next.span.left m.places n
            ∙ ap (λ g. g ∷ remaining_at s (c.at + 1) line d.span_end (c.at + m.places.body_to)) (sym m.function_is)
            ∙ ap (λ k. text_fun s f ∷ remaining_at s (c.at + 1) k d.span_end (c.at + m.places.body_to)) (sym next.line-is)
            ∙ ap (λ k. text_fun s f ∷ remaining_at s k d.line d.span_end (c.at + m.places.body_to)) (sym next.at-is)
            ∙ ap (λ k. text_fun s f ∷ remaining_at s d.at d.line d.span_end k) (sym m.end_is);
        text = same;
        further = omega (arith, next.at-is);
        name-inside = m.name-inside;
        line-most = g.line-most;
        lines-most = g.lines-most;
        cyclomatic-most = omega (arith, g.cyclomatic-most);
        nesting-most = omega (arith, g.nesting-most);
        params-most = g.params-most;
        fine = g;
      }

  -- where the cursor behind is ready too
  pub finds_ready : d.text ≡ s → Ready s d → (f : Found) (m : MeasuredAt s c.at c.line f d.resume) → sought (d.span_end - c.at) (c.resume - c.at) (byte_before s c.at) (drop c.at s) ≡ some m.places → Yields s c f d
  finds_ready same ready f m n = record { gives = finds same f m n; ready = ready }

-- at any place a search may begin of which nothing was sought in vain
pub ready_from : (s t : List ℕ) (at line span_end resume : ℕ) → at ≤ length s → 1 ≤ line → line ≤ at + 1 → Ready s (state t at line span_end resume 0 0 0)
unfolding Spanless Barren
ready_from s t at line span_end resume i l m =
    record {
      inside = i;
      line-least = l;
      line-most = m;
      no_span = λ x h k. absurd (omega arith);
      no_function = λ from x h k. absurd (omega arith);
    }

-- as at the start
pub ready_start : (s t : List ℕ) → Ready s (state t 0 1 0 0 0 0 0)
ready_start s t = ready_from s t 0 1 0 0 (omega arith) (omega arith) (omega arith)

-- one byte further what holds of a cursor holds
pub ready_next : (s : List ℕ) (c : State) → c.at < length s → Ready s c → (line : ℕ) → line ≡ count_after lf (get_or s c.at 0) c.line → Ready s (moved_to c (c.at + 1) line)
unfolding Spanless
ready_next s c h ready line e =
    let l : (c.line ≤ line) × (line ≤ suc c.line) = omega (arith, e, count-after lf (get_or s c.at 0) c.line) in
    record {
      inside = omega arith;
      line-least = omega (arith, ready.line-least);
      line-most = omega (arith, ready.line-most);
      no_span = λ x i k. ready.no_span x (omega arith) k;
      no_function = ready.no_function;
    }

-- with another span, and another place up to which none begins
pub ready_span : (s : List ℕ) (c : State) (end to : ℕ) → Ready s c → Spanless s c.at to → Ready s (record c { span_end = end; spanless = to })
ready_span s c end to ready gone =
    record { inside = ready.inside; line-least = ready.line-least; line-most = ready.line-most; no_span = gone; no_function = ready.no_function }

-- with other places at which no function is, and another body
pub ready_name : (s : List ℕ) (c : State) (resume from to : ℕ) → Ready s c → Barren s from to → Ready s (record c { resume = resume; barren_from = from; barren_to = to })
ready_name s c resume from to ready gone =
    record { inside = ready.inside; line-least = ready.line-least; line-most = ready.line-most; no_span = ready.no_span; no_function = gone }

-- past a byte at which nothing begins: only the place and the line change
pub quiet : (s : List ℕ) (c : State) → c.at < length s → Ready s c → Calm s c.span_end c.resume c.at → (line : ℕ) → line ≡ count_after lf (get_or s c.at 0) c.line
    → remaining s c ≡ remaining s (moved_to c (c.at + 1) line)
quiet s c h ready calm line e = passes s c h d next refl none_here
  where
    d : State
    d = moved_to c (c.at + 1) line

    left : c.span_end - c.at ≡ (c.span_end - c.at) or_else span_length (drop c.at s)
    left =
        elim (whether (ltb c.at c.span_end)) [
          | inl t ↦ span_open (c.span_end - c.at) _ (omega (arith, ltb-true c.at c.span_end t))
          | inr t ↦ span_none (c.span_end - c.at) _ (no-hash s c.at h (calm.no-mark (ltb-false c.at c.span_end t)))
        ]

    next : Next s c d
    next = record { at-is = refl; line-is = e; span = record { left = left; no_span = ready.no_span } }

    none_here : sought (c.span_end - c.at) (c.resume - c.at) (byte_before s c.at) (drop c.at s) ≡ none
    none_here =
        elim (whether (ltb c.at c.span_end)) [
          | inl t ↦ sought_in_span (c.span_end - c.at) (c.resume - c.at) (byte_before s c.at) (drop c.at s) (λ z. omega (arith, ltb-true c.at c.span_end t))
          | inr t ↦ elim (whether (ltb c.at c.resume)) [
            | inl u ↦ sought-skipped (c.span_end - c.at) (c.resume - c.at) (byte_before s c.at) (drop c.at s) (λ z. omega (arith, ltb-true c.at c.resume u))
            | inr u ↦
                sought-no_word (c.span_end - c.at) (c.resume - c.at) (byte_before s c.at) (drop c.at s)
                (other_byte s c.at h (byte_before s c.at) (calm.no_word (ltb-false c.at c.span_end t) (ltb-false c.at c.resume u)))
          ]
        ]

-- past a byte all that holds of a cursor holds, without a function and with one. No name is sought between the places that are told
module _ (s : List ℕ) (c : State) (h : c.at < length s) (ready : Ready s c) (d : State) (text : d.text ≡ s) (next : Next s c d) where
  pub ready_behind : Barren s d.barren_from d.barren_to → Ready s d
  ready_behind gone =
      let m = ready_span s c d.span_end d.spanless ready next.span.no_span in
      let k = ready_next s (record c { span_end = d.span_end; spanless = d.spanless }) h m (count_after lf (get_or s c.at 0) c.line) refl in
      record {
        inside = omega (arith, next.at-is, k.inside);
        line-least = omega (arith, next.line-is, k.line-least);
        line-most = omega (arith, next.line-is, next.at-is, k.line-most);
        no_span = subst (λ (n : ℕ). Spanless s n d.spanless) (sym next.at-is) k.no_span;
        no_function = gone;
      }

  pub passes_on : d.resume ≡ c.resume → sought (d.span_end - c.at) (c.resume - c.at) (byte_before s c.at) (drop c.at s) ≡ none → Barren s d.barren_from d.barren_to → Passes s c d
  passes_on e n gone = record { skips = record { same = passes s c h d next e n; text = text; further = next.at-is }; ready = ready_behind gone }

  pub finds_on : d.barren_from ≡ c.barren_from → d.barren_to ≡ c.barren_to → (f : Found) (m : GivenAt s c.at c.line f d.resume)
      → sought (d.span_end - c.at) (c.resume - c.at) (byte_before s c.at) (drop c.at s) ≡ some m.places → Yields s c f d
  finds_on from to f m n =
      let here : Here s c.at c.line (drop c.at s) = record { rest = refl; inside = omega arith; line-least = ready.line-least; line-most = omega (arith, ready.line-most) } in
      let g : Fine s (text_fun s f) = subst (Fine s) (sym m.function_is) (fine s c.at c.line (drop c.at s) m.places here m.found) in
      let i : MeasuredAt s c.at c.line f d.resume =
      record { places = m.places; found = m.found; function_is = m.function_is; end_is = m.end_is; name-inside = m.name-inside; fine = g } in
      let gone : Barren s d.barren_from d.barren_to = subst (λ (n : ℕ). Barren s n d.barren_to) (sym from) (subst (Barren s c.barren_from) (sym to) ready.no_function) in
      finds_ready s c h d next text (ready_behind gone) f i n

pub quiet_on : (s : List ℕ) (c : State) → c.text ≡ s → c.at < length s → Ready s c → Calm s c.span_end c.resume c.at → (line : ℕ) → line ≡ count_after lf (get_or s c.at 0) c.line
    → Passes s c (moved_to c (c.at + 1) line)
quiet_on s c text h ready calm line e = record { skips = record { same = quiet s c h ready calm line e; text = text; further = refl }; ready = ready_next s c h ready line e }

-- the places at which nothing begins: in a span every one, in a body those without #, and anywhere those without # and f
module _ (s : List ℕ) (span_end resume at : ℕ) where
  pub calm_span : at < span_end → Calm s span_end resume at
  calm_span h = record { no-mark = λ k. absurd (omega arith); no_word = λ k j. absurd (omega arith) }

  pub calm_body : at < resume → get_or s at 0 ≢ hash → Calm s span_end resume at
  calm_body h m = record { no-mark = λ k. m; no_word = λ k j. absurd (omega arith) }

  pub calm_byte : (get_or s at 0 ≢ hash) × (get_or s at 0 ≢ 102) → Calm s span_end resume at
  calm_byte (m, n) = record { no-mark = λ k. m; no_word = λ k j. n }

-- a cursor goes on past quiet bytes
module _ (s : List ℕ) (from start span_end resume : ℕ) where
  pub quieter_here : from ≤ length s → start ≤ from + 1 → Quieter s from start span_end resume (record { at = from; line = start })
  quieter_here h k =
      record {
        further = omega arith;
        inside = h;
        line-most = k;
        passes = λ c e d i j r. subst (λ at. Goes c at start) e (subst (λ line. Goes c c.at line) d (r, refl));
      }
    where
      Goes : State → ℕ → ℕ → Type 0
      Goes c at line = Ready s (moved_to c at line) × (remaining s c ≡ remaining s (moved_to c at line))

  quieter_next : (at line : ℕ) → Quieter s from start span_end resume (record { at = at; line = line }) → at < length s → Calm s span_end resume at → (next : ℕ) → next ≡ count_after lf (get_or s at 0) line
      → Quieter s from start span_end resume (record { at = at + 1; line = next })
  quieter_next at line q h calm next e =
      record {
        further = omega (arith, q.further);
        inside = omega arith;
        line-most = omega (arith, q.line-most, count-after lf (get_or s at 0) line);
        passes = λ c i j k l r.
            let (m, n) = q.passes c i j k l r in
            let d : Calm s c.span_end c.resume at = subst (λ x. Calm s x c.resume at) (sym k) (subst (λ x. Calm s span_end x at) (sym l) calm) in
            let p = quiet s (moved_to c at line) h m d next e in
            (ready_next s (moved_to c at line) h m next e, n ∙ p);
      }

  quieter_many : (q : Spot) → Quieter s from start span_end resume q → (many : ℕ) → q.at + many ≤ length s → ((i : ℕ) → i < many → Calm s span_end resume (q.at + i))
      → Quieter s from start span_end resume (record { at = q.at + many; line = q.line + count_from lf s q.at many })
  unfolding count_from
  quieter_many q h zero k calm = subst (λ at. Quieter s from start span_end resume (record { at = at; line = q.line + 0 })) (omega arith) (subst (λ line. Quieter s from start span_end resume (record { at = q.at; line = line })) (omega arith) h)
  quieter_many q h (suc many) k calm =
      let n : Quieter s from start span_end resume (record { at = q.at + many; line = q.line + count_from lf s q.at many }) = quieter_many q h many (omega arith) (λ i j. calm i (omega arith)) in
      subst (λ at. Quieter s from start span_end resume (record { at = at; line = q.line + count_from lf s q.at (suc many) })) (omega arith)
      (quieter_next (q.at + many) (q.line + count_from lf s q.at many) n (omega arith) (calm many (omega arith)) _ (sym (count-behind lf (get_or s (q.at + many) 0) q.line (count_from lf s q.at many))))

  -- past bytes of which each is quiet before a place
  pub quieter_on : (P : ℕ → Type 0) (q : Spot) → Quieter s from start span_end resume q → (to : ℕ) → to ≤ length s → ((at : ℕ) → at < to → P (get_or s at 0) → Calm s span_end resume at)
      → (r : Spot) → Passed P s q.at q.line to r → Quieter s from start span_end resume r
  quieter_on P q h to k calm r p =
      subst (λ at. Quieter s from start span_end resume (record { at = at; line = r.line })) (sym p.at-is)
      (subst (λ line. Quieter s from start span_end resume (record { at = q.at + p.many; line = line })) (sym p.line-is)
      (quieter_many q h p.many inside (λ i j. calm (q.at + i) (omega (arith, p.at-is, p.before (omega arith))) (p.each i j))))
    where
      inside : q.at + p.many ≤ length s
      inside =
          elim (whether (ltb 0 p.many)) [
            | inl t ↦ omega (arith, p.at-is, p.before (ltb-true 0 p.many t))
            | inr t ↦ omega (arith, h.inside, ltb-false 0 p.many t)
          ]

-- a turn that finds a function finds it for every cursor that has the same functions
pub gives_later : (s : List ℕ) (b c : State) (f : Found) (d : State) → remaining s c ≡ remaining s b → b.at ≤ c.at → Gives s c f d → Gives s b f d
gives_later s b c f d e h y =
    record {
      yields = sym e ∙ y.yields;
      text = y.text;
      further = omega (arith, y.further);
      name-inside = y.name-inside;
      line-most = y.line-most;
      lines-most = y.lines-most;
      cyclomatic-most = y.cyclomatic-most;
      nesting-most = y.nesting-most;
      params-most = y.params-most;
      fine = y.fine;
    }

pub yields-later : (s : List ℕ) (b c : State) (f : Found) (d : State) → remaining s c ≡ remaining s b → b.at ≤ c.at → Yields s c f d → Yields s b f d
yields-later s b c f d e h y = record { gives = gives_later s b c f d e h y.gives; ready = y.ready }

pub remaining-end : (s : List ℕ) (c : State) → length s ≤ c.at → remaining s c ≡ []
unfolding remaining remaining_at
remaining-end s c h = functions-end s c.at h span_length c.line (c.span_end - c.at) (c.resume - c.at) (byte_before s c.at)

-- the function at a place, by its name and its brackets
abbrev place_in : (Places → ℕ) → Option Places → ℕ
place_in g none = 0
place_in g (some p) = g p

abbrev fun_at : ℕ → List ℕ → (line lines cyclomatic nesting params : ℕ) → TextFun
fun_at at name line lines cyclomatic nesting params = record { name_at = at; name = name; line = line; lines = lines; cyclomatic = cyclomatic; nesting = nesting; params = params }

same_function : (a a' : ℕ) (n n' : List ℕ) (l l' k k' c c' d d' p p' : ℕ) → a ≡ a' → n ≡ n' → l ≡ l' → k ≡ k' → c ≡ c' → d ≡ d' → p ≡ p' → fun_at a n l k c d p ≡ fun_at a' n' l' k' c' d' p'
same_function a a' n n' l l' k k' c c' d d' p p' e₁ e₂ e₃ e₄ e₅ e₆ e₇ = cc

module _ (s : List ℕ) (at from to : ℕ) (e : from ≡ at + 2 + run is_space (drop (at + 2) s)) (d : to ≡ from + run is_word (drop from s)) where
  from_is : from ≡ at + name_start (drop at s)
  from_is = e ∙ name-from s at

  to_is : to ≡ at + name_end (drop at s)
  to_is = d ∙ ap (λ k. k + run is_word (drop k s)) from_is ∙ name-to s at

  pub nameless : to ≡ from → function_at (drop at s) ≡ none
  nameless z = function_nameless (drop at s) (le-ltb (name_start (drop at s)) (name_end (drop at s)) (omega (arith, from_is, to_is)))

  pub broken : from ≤ to → to ≢ from → ((start : ℕ) → function_from start to s ≡ none) → function_at (drop at s) ≡ none
  broken h n gone = no_function s at (omega (arith, from_is, to_is)) (ap (λ k. function_from (at + name_start (drop at s)) k s) (sym to_is) ∙ gone (at + name_start (drop at s)))

  there : from ≤ to → (line : ℕ) (b : Brackets) (f : Found) → Closed s to b → FoundAt s line from to b f
      → (p : Places) → function_at (drop at s) ≡ some p → moved_places at (some p) ≡ some (places_at (at + name_start (drop at s)) to b.opened b.closed b.body b.end)
      → GivenAt s at line f (b.end + 1)
  unfolding text_fun measured
  there h line b f c i p g m =
      let m₁ : at + p.name_from ≡ from = ap (place_in (λ q. q.name_from)) m ∙ sym from_is in
      let m₂ : at + p.name_to ≡ to = ap (place_in (λ q. q.name_to)) m in
      let m₃ : at + p.params_from ≡ b.opened + 1 = ap (place_in (λ q. q.params_from)) m ∙ sym (add-one b.opened) in
      let m₄ : at + p.params_to ≡ b.closed = ap (place_in (λ q. q.params_to)) m in
      let m₅ : at + p.body_from ≡ b.body = ap (place_in (λ q. q.body_from)) m in
      let m₆ : at + p.body_to ≡ b.end + 1 = ap (place_in (λ q. q.body_to)) m ∙ sym (add-one b.end) in
      let name : part from to s ≡ part p.name_from p.name_to (drop at s) = cc (m₁, m₂, part-rest at s p.name_from p.name_to) in
      let list : part (b.opened + 1) b.closed s ≡ part p.params_from p.params_to (drop at s) = cc (m₃, m₄, part-rest at s p.params_from p.params_to) in
      let body : part b.body (b.end + 1) s ≡ part p.body_from p.body_to (drop at s) = cc (m₅, m₆, part-rest at s p.body_from p.body_to) in
      let named : take f.name_len (drop f.name_at s) ≡ part from to s = cc (i.name-at-is, i.name_len_is) in
      let same : text_fun s f ≡ measured at line (drop at s) p =
      same_function _ _ _ _ _ _ _ _ _ _ _ _ _ _ (i.name-at-is ∙ sym m₁) (named ∙ name) i.line-is (i.lines-is ∙ ap lines_of body) (i.cyclomatic-is ∙ ap cyclomatic_of body)
      (i.nesting-is ∙ ap nesting_of body) (i.params_is ∙ ap params_of list) in
      record {
        places = p;
        found = g;
        function_is = same;
        end_is = sym m₆;
        name-inside = omega (arith, i.name-at-is, i.name_len_is, c.name-first, c.list_order, c.list_first, c.body-order, c.inside);
      }

  -- whatever the number of the line
  pub function_given : from ≤ to → to ≢ from → (line : ℕ) (b : Brackets) (f : Found) → Closed s to b → FoundAt s line from to b f → GivenAt s at line f (b.end + 1)
  function_given h n line b f c i =
      let q = places_at (at + name_start (drop at s)) to b.opened b.closed b.body b.end in
      let (p, g, m) = function_at_lem s at (omega (arith, from_is, to_is)) q (ap (λ k. function_from (at + name_start (drop at s)) k s) (sym to_is) ∙ c.places (at + name_start (drop at s))) in
      there h line b f c i p g m

  pub function_there : from ≤ to → to ≢ from → (line : ℕ) → Here s at line (drop at s) → (b : Brackets) (f : Found) → Closed s to b → FoundAt s line from to b f → MeasuredAt s at line f (b.end + 1)
  function_there h n line here-at b f c i =
      let g = function_given h n line b f c i in
      record {
        places = g.places;
        found = g.found;
        function_is = g.function_is;
        end_is = g.end_is;
        name-inside = g.name-inside;
        fine = subst (Fine s) (sym g.function_is) (fine s at line (drop at s) g.places here-at g.found);
      }

then-none : {A : Type 0} (o : Option ℕ) (k : ℕ → Option A) → ((m : ℕ) → o ≡ some m → k m ≡ none) → (o and_then k) ≡ none
then-none none k h = refl
then-none (some m) k h = h m refl

-- behind the last { or the last } no name is a function's
pub behind_braces : (s : List ℕ) (to from x : ℕ) → Absent brace_open s to ⊎ Absent brace_close s to → to ≤ x → function_from from x s ≡ none
unfolding function_from
behind_braces s to from x h k =
    then-none (find round_open x (drop x s)) _ λ opened e₁.
    then-none (partner round_open round_close 0 (suc opened) (drop (suc opened) s)) _ λ closed e₂.
    then-none (body_at 0 0 0 (suc closed) (drop (suc closed) s)) _ λ body e₃.
    let i₁ = find-place s x opened round_open e₁ in
    let i₂ = partner-place s (suc opened) closed round_open round_close e₂ in
    let i₃ = body-place s (suc closed) body e₃ in
    elim h [
      | inl g ↦ absurd (none-some body (sym e₃ ∙ no_body s to (suc closed) 0 0 0 g (omega arith)))
      | inr g ↦ rw (no-partner brace_open brace_close s to (suc body) 0 g (omega arith))
    ]
