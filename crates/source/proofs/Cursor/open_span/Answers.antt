-- A span that is open stays; elsewhere one begins only where the mark stands and the next brace has a partner. Where it has none, none has a partner up to
-- that brace.
use Rattle.std.proofs.Common.{ℕ, ◌+◌, ◌-◌, ◌≡◌, List, drop, length, get_or, true, ap, subst, sym, ◌∙◌, arith}
use Rattle.std.specs.Prelude.{Option, None, Some}
use Rattle.std.proofs.Math.Option.{none, some}
use Rattle.text_rules.specs.Bytes.{ascii}
use Rattle.text_rules.specs.Classes.{brace_close, brace_open}
use Rattle.text_rules.specs.Search.{find, starts_with}
use Rattle.source_rules.specs.Brackets.{partner}
use Rattle.source_rules.proofs.PlaceLaws.{block, block_from, find-place, no-brace, open_block}
use Rattle.source_rules.proofs.TextScanSteps.{no-hash, no-mark, no_span, span_to}
use Rattle.search.specs.Place.{place_of}
use Rattle.source.specs.Cursors.{Ready, Spanless}
use Rattle.source.specs.View.{state_of}
use Rattle.source.specs.Steps.{ready_span, span_new, span_none}
use Rattle.source.proofs.Cursor.open_span.Goals as goal

-- what the search for the brace answers, of the text by its own name
there : (s t : List ℕ) (at : ℕ) → t ≡ s → (r : Option ℕ) → place_of r ≡ find brace_open at (drop at t) → (p : Option ℕ) → r ≡ p → find brace_open at (drop at s) ≡ place_of p
there s t at e r h p i = subst (λ u. find brace_open at (drop at u) ≡ place_of p) e (sym h ∙ ap place_of i)

pub returns-then-s-at-ne35-clause-span : goal.returns-then-s-at-ne35-clause-span
returns-then-s-at-ne35-clause-span c =
    let old = state_of c.args.self.now in
    let here = c.requires in
    let ready = c.args.self.now.ready in
    record { left = span_none (old.span_end - old.at) _ (no-hash old.text old.at here (λ e. c.if-s-at-ne35.true (ap (λ t. get_or t old.at 0) c.bytes-s.ensures ∙ e))); no_span = ready.no_span }

pub returns-then-at-self-2-clause-span : goal.returns-then-at-self-2-clause-span
unfolding Spanless
returns-then-at-self-2-clause-span c =
    let old = state_of c.args.self.now in
    let here = c.requires in
    let ready = c.args.self.now.ready in
    let e : block_from old.text old.at ≡ none = ready.no_span old.at (omega arith) c.if-at-self-2.true in
    record { left = span_none (old.span_end - old.at) _ (no_span old.text old.at here e); no_span = ready.no_span }

pub returns-then-not-test_mark-clause-span : goal.returns-then-not-test_mark-clause-span
returns-then-not-test_mark-clause-span c =
    let old = state_of c.args.self.now in
    let here = c.requires in
    let ready = c.args.self.now.ready in
    let e = sym (ap (λ t. starts_with (ascii "#[cfg(test)]") (drop old.at t)) c.bytes-s.ensures) ∙ sym c.test_mark.ensures ∙ c.if-not-test_mark.true in
    record { left = span_none (old.span_end - old.at) _ (no-mark old.text old.at here e); no_span = ready.no_span }

pub returns-in_default-clause-span : goal.returns-in_default-clause-span
unfolding Spanless
returns-in_default-clause-span c =
    let old = state_of c.args.self.now in
    let here = c.requires in
    let e = there old.text _ old.at c.bytes-s.ensures _ c.find.ensures None c.in_default.is in
    let gone = no-brace old.text old.at e in
    record { left = span_none (old.span_end - old.at) _ (no_span old.text old.at here (gone old.at (omega arith))); no_span = λ x h k. gone x h }

pub overflow_add-opened : goal.overflow_add-opened
overflow_add-opened c =
    let old = state_of c.args.self.now in
    let here = c.requires in
    let e = there old.text _ old.at c.bytes-s.ensures _ c.find.ensures (Some c.in-Some.opened) c.in-Some.is in
    omega (arith, ap length c.bytes-s.ensures, find-place old.text old.at _ brace_open e)

pub block_end-closed-requires : goal.block_end-closed-requires
block_end-closed-requires c =
    let old = state_of c.args.self.now in
    let here = c.requires in
    let e = there old.text _ old.at c.bytes-s.ensures _ c.find.ensures (Some c.in-Some.opened) c.in-Some.is in
    omega (arith, find-place old.text old.at _ brace_open e)

pub overflow_add-self : goal.overflow_add-self
overflow_add-self c =
    let old = state_of c.args.self.now in
    let here = c.requires in
    let e = there old.text _ old.at c.bytes-s.ensures _ c.find.ensures (Some c.in-Some.opened) c.in-Some.is in
    omega (arith, ap length c.bytes-s.ensures, find-place old.text old.at _ brace_open e)

pub returns-in-None-clause-span : goal.returns-in-None-clause-span
unfolding Spanless
returns-in-None-clause-span c =
    let old = state_of c.args.self.now in
    let here = c.requires in
    let s = old.text in
    let at = old.at in
    let opened = c.in-Some.opened in
    let e₁ = there s _ at c.bytes-s.ensures _ c.find.ensures (Some opened) c.in-Some.is in
    let e₂ : partner brace_open brace_close 0 (opened + 1) (drop (opened + 1) s) ≡ none = sym c.block_end-closed.ensures.found ∙ ap place_of c.in-None.is in
    let gone = open_block s at opened e₁ e₂ in
    record { left = span_none (old.span_end - at) _ (no_span s at here (gone at (omega arith) (omega (arith, find-place s at opened brace_open e₁)))); no_span = gone }

pub returns-in-Some-closed-clause-span : goal.returns-in-Some-closed-clause-span
returns-in-Some-closed-clause-span c =
    let old = state_of c.args.self.now in
    let here = c.requires in
    let s = old.text in
    let at = old.at in
    let opened = c.in-Some.opened in
    let end = c.in-Some-closed.end in
    let e₁ = there s _ at c.bytes-s.ensures _ c.find.ensures (Some opened) c.in-Some.is in
    let e₂ : partner brace_open brace_close 0 (opened + 1) (drop (opened + 1) s) ≡ some end = sym c.block_end-closed.ensures.found ∙ ap place_of c.in-Some-closed.is in
    let marked : starts_with (ascii "#[cfg(test)]") (drop at s) ≡ true = sym (ap (λ t. starts_with (ascii "#[cfg(test)]") (drop at t)) c.bytes-s.ensures) ∙ sym c.test_mark.ensures ∙ c.if-not-test_mark.false in
    let z : old.span_end - at ≡ 0 = omega (arith, c.if-at-self.false) in
    record { left = span_new (old.span_end - at) (end - at) _ z (span_to s at here end marked (block s at opened e₁ end e₂)); no_span = c.args.self.now.ready.no_span }

pub invariant_of-self : goal.invariant_of-self
unfolding Spanless
invariant_of-self c =
    let old = state_of c.args.self.now in
    let gone = no-brace old.text old.at (there old.text _ old.at c.bytes-s.ensures _ c.find.ensures None c.in_default.is) in
    record { ready = ready_span old.text old old.span_end (length c.bytes-s.result.now) c.args.self.now.ready (λ x h k. gone x h) }

pub invariant_of-self-in-None : goal.invariant_of-self-in-None
unfolding Spanless
invariant_of-self-in-None c =
    let old = state_of c.args.self.now in
    let opened = c.in-Some.opened in
    let e₁ = there old.text _ old.at c.bytes-s.ensures _ c.find.ensures (Some opened) c.in-Some.is in
    let e₂ : partner brace_open brace_close 0 (opened + 1) (drop (opened + 1) old.text) ≡ none = sym c.block_end-closed.ensures.found ∙ ap place_of c.in-None.is in
    let ready = ready_span old.text old old.span_end (opened + 1) c.args.self.now.ready (open_block old.text old.at opened e₁ e₂) in
    record { ready = subst (λ u. Ready u (record old { text = u; spanless = opened + 1 })) (sym c.block_end-closed.ensures.same) ready }
