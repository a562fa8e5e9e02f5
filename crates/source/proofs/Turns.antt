-- A turn of the search: the span at the byte is told, then what begins there, and then the cursor stands one byte further.
use Prim.Native.Nat.{ℕ, ◌+◌, ◌-◌, ◌<◌}
use Rattle.std.specs.Prelude.{◌≡◌, List, drop, length, get_or, Option, None, Some}
use Rattle.std.proofs.Common.{ap, subst, sym, ◌∙◌}
use Rattle.std.proofs.Math.Option.{none, some}
use Rattle.text_rules.specs.Classes.{lf}
use Rattle.text_rules.specs.Search.{count_after}
use Rattle.source_rules.specs.Finding.{function_at}
use Rattle.source_rules.specs.TextScan.{sought}
use Rattle.source_rules.proofs.TextScanSteps.{byte_before}
use Rattle.source.specs.Cursors.{Gives, MeasuredAt, Measures, Ready, Skips, SpanAt, Spanless, TurnGives, Turned, moved_to, sought_at}
use Rattle.source.specs.Steps.{Next, finds, passes}
use Rattle.source.specs.State.{State}
use Rattle.source.specs.declared.Found.{Found}

-- `m` has the span, `n` what was measured, `d` stands behind the byte
module _ (s : List ℕ) (c m n d : State) (h : c.at < length s) (was : c.text ≡ s) (span : SpanAt s c m)
    (e₁ : m ≡ record c { span_end = m.span_end; spanless = m.spanless })
    (e₂ : n ≡ record m { resume = n.resume; barren_from = n.barren_from; barren_to = n.barren_to })
    (e₃ : d ≡ moved_to n (n.at + 1) (count_after lf (get_or n.text n.at 0) n.line)) where
  at-is : n.at ≡ c.at
  at-is = ap (λ k. k.at) e₂ ∙ ap (λ k. k.at) e₁

  line-is : n.line ≡ c.line
  line-is = ap (λ k. k.line) e₂ ∙ ap (λ k. k.line) e₁

  text : n.text ≡ s
  text = ap (λ k. k.text) e₂ ∙ ap (λ k. k.text) e₁ ∙ was

  span_is : d.span_end ≡ m.span_end
  span_is = ap (λ k. k.span_end) e₃ ∙ ap (λ k. k.span_end) e₂

  here : SpanAt s c d
  here =
      record {
        left = ap (λ k. k - c.at) span_is ∙ span.left;
        no_span = subst (Spanless s c.at) (sym (ap (λ k. k.spanless) e₃ ∙ ap (λ k. k.spanless) e₂)) span.no_span;
      }

  next : Next s c d
  next =
      record {
        at-is = ap (λ k. k.at) e₃ ∙ ap (λ k. k + 1) at-is;
        line-is =
            ap (λ k. k.line) e₃
            ∙ ap (λ t. count_after lf (get_or t n.at 0) n.line) text
            ∙ ap (λ k. count_after lf (get_or s k 0) n.line) at-is
            ∙ ap (count_after lf (get_or s c.at 0)) line-is;
        span = here;
      }

  text_stays : d.text ≡ s
  text_stays = ap (λ k. k.text) e₃ ∙ text

  sought_is : sought_at m.text m ≡ sought (d.span_end - c.at) (c.resume - c.at) (byte_before s c.at) (drop c.at s)
  sought_is =
      ap (λ k. sought (m.span_end - k.at) (k.resume - k.at) (byte_before k.text k.at) (drop k.at k.text)) e₁
      ∙ ap (λ t. sought (m.span_end - c.at) (c.resume - c.at) (byte_before t c.at) (drop c.at t)) was
      ∙ ap (λ k. sought (k - c.at) (c.resume - c.at) (byte_before s c.at) (drop c.at s)) (sym span_is)

  resume_is : m.resume ≡ c.resume
  resume_is = ap (λ k. k.resume) e₁

  text_was : m.text ≡ s
  text_was = ap (λ k. k.text) e₁ ∙ was

  at_text : function_at (drop m.at m.text) ≡ function_at (drop c.at s)
  at_text = ap (λ k. function_at (drop k.at k.text)) e₁ ∙ ap (λ t. function_at (drop c.at t)) was

  pub past : n.resume ≡ m.resume → sought_at m.text m ≡ none → Skips s c d
  past e none-there = record { same = passes s c h d next (ap (λ k. k.resume) e₃ ∙ e ∙ resume_is) (sym sought_is ∙ none-there); text = text_stays; further = next.at-is }

  found : (f : Found) → (i : MeasuredAt s c.at c.line f n.resume) → sought_at m.text m ≡ some i.places → Gives s c f d
  found f i there =
      let j : MeasuredAt s c.at c.line f d.resume =
      record { places = i.places; found = i.found; function_is = i.function_is; end_is = ap (λ k. k.resume) e₃ ∙ i.end_is; name-inside = i.name-inside; fine = i.fine } in
      finds s c h d next text_stays f j (sym sought_is ∙ there)

  pub turned : (r : Option Found) → Measures m.text m r n → sought_at m.text m ≡ function_at (drop m.at m.text) → TurnGives s c r d
  turned (Some f) i e =
      let j = subst (λ t. MeasuredAt t c.at c.line f n.resume) was (subst (λ k. MeasuredAt k.text k.at k.line f n.resume) e₁ i) in
      found f j (e ∙ at_text ∙ j.found)
  turned None (i, same) e = past same (e ∙ i)

-- and what holds of a cursor holds of the one that stands there
pub ready_turn : (s : List ℕ) (c d : State) (r : Option Found) → Ready d.text d → TurnGives s c r d → Turned s c r d
ready_turn s c d (Some f) ready g = record { gives = g; ready = subst (λ t. Ready t d) g.text ready }
ready_turn s c d None ready g = record { skips = g; ready = subst (λ t. Ready t d) g.text ready }
