-- Each search tells whether its bracket is there, and the rules have one law for each that may be missing and one for all four.
use Rattle.std.proofs.Common.{ℕ, ◌+◌, ◌-◌, ◌≤◌, ◌<◌, ◌≡◌, List, drop, length, get_or, ap, subst, sym, ◌∙◌, arith, get_or-drop, refl}
use Rattle.std.specs.Prelude.{Option, None, Some}
use Rattle.std.proofs.Math.Option.{none, some}
use Rattle.text_rules.specs.Classes.{brace_close, brace_open, round_close, round_open}
use Rattle.text_rules.specs.Search.{find}
use Rattle.source_rules.specs.Finding.{body_at, function_from}
use Rattle.source_rules.proofs.FindingLaws.{body-brace}
use Rattle.source_rules.proofs.PlaceLaws.{body-place, find-place, no_body, no_list, open_body, open_list, partner-place, whole}
use Rattle.search.specs.Place.{place_of}
use Rattle.parts.specs.Told.{NoBody, no-brace, no_end}
use Rattle.signatures.specs.Signatures.{Begins}
use Rattle.signatures.specs.declared.Signature.{Signature}
use Rattle.source.specs.Bytes.{bytes_of}
use Rattle.source.specs.Cursors.{Barren, Blocked}
use Rattle.source.proofs.text.Text.signature_sought.Goals as goal

-- the byte at the place is a brace
brace-there : (s : List ℕ) (at body : ℕ) → at ≤ body → body_at 0 0 0 at (drop at s) ≡ some body → get_or s body 0 ≡ brace_open
brace-there s at body h e =
    let k : at + (body - at) ≡ body = omega arith in
    ap (λ i. get_or s i 0) (sym k) ∙ sym (get_or-drop at s (body - at) 0) ∙ body-brace 0 0 0 at (drop at s) (body - at) (e ∙ ap some (sym k))

-- where not both the list's end and the body are there, no name before the bracket is a function's
none_before : (s : List ℕ) (to opened : ℕ) → find round_open to (drop to s) ≡ some opened → NoBody s (opened + 1) → (from x : ℕ) → to ≤ x → x < opened + 1
    → function_from from x s ≡ none
none_before s to opened e (no_end h) = open_list s to opened e h
none_before s to opened e (no-brace closed h k) = no_body s to opened e closed h k

-- what the searches answer, of the text by its own name
there : (s t : List ℕ) (to : ℕ) → t ≡ s → (r : Option ℕ) → place_of r ≡ find round_open to (drop to t) → (opened : ℕ) → r ≡ Some opened → find round_open to (drop to s) ≡ some opened
there s t to e r h opened i = subst (λ u. find round_open to (drop to u) ≡ some opened) e (sym h ∙ ap place_of i)

begins : (s t : List ℕ) → t ≡ s → (from : ℕ) (r : Option Signature) → Begins t from r → (p : Option Signature) → r ≡ p → Begins s from p
begins s t e from r h p i = subst (λ u. Begins u from p) e (subst (Begins t from) i h)

pub returns-in_default-clause-signed : goal.returns-in_default-clause-signed
unfolding Barren
returns-in_default-clause-signed c =
    let s = bytes_of c.args.self.now in
    let to = c.args.to in
    let e : find round_open to (drop to s) ≡ none = subst (λ u. find round_open to (drop to u) ≡ none) c.bytes-s.ensures (sym c.find.ensures ∙ ap place_of c.in_default.is) in
    record { none_here = λ from. no_list s to e from to (omega arith); no_function = λ from x h k. no_list s to e from x h }

pub overflow_add-inside : goal.overflow_add-inside
overflow_add-inside c =
    let s = bytes_of c.args.self.now in
    let to = c.args.to in
    let opened = c.in-Some.opened in
    let e₁ : find round_open to (drop to s) ≡ some opened = there s _ to c.bytes-s.ensures _ c.find.ensures opened c.in-Some.is in
    omega (arith, ap length c.bytes-s.ensures, find-place s to opened round_open e₁)

pub brackets_after-requires : goal.brackets_after-requires
brackets_after-requires c =
    let s = bytes_of c.args.self.now in
    let to = c.args.to in
    let opened = c.in-Some.opened in
    let e₁ : find round_open to (drop to s) ≡ some opened = there s _ to c.bytes-s.ensures _ c.find.ensures opened c.in-Some.is in
    omega (arith, find-place s to opened round_open e₁)

pub returns-in_default-brackets_after-clause-signed : goal.returns-in_default-brackets_after-clause-signed
unfolding Barren
returns-in_default-brackets_after-clause-signed c =
    let s = bytes_of c.args.self.now in
    let to = c.args.to in
    let opened = c.in-Some.opened in
    let e₁ : find round_open to (drop to s) ≡ some opened = there s _ to c.bytes-s.ensures _ c.find.ensures opened c.in-Some.is in
    let gone = none_before s to opened e₁ (begins s _ refl (opened + 1) _ c.brackets_after.ensures.begins None c.in_default-brackets_after.is) in
    record { none_here = λ from. gone from to (omega arith) (omega (arith, find-place s to opened round_open e₁)); no_function = gone }

pub block_at-block-requires-clause-inside : goal.block_at-block-requires-clause-inside
block_at-block-requires-clause-inside c =
    let s = bytes_of c.args.self.now in
    let to = c.args.to in
    let opened = c.in-Some.opened in
    let e₁ : find round_open to (drop to s) ≡ some opened = there s _ to c.bytes-s.ensures _ c.find.ensures opened c.in-Some.is in
    let p = c.in-Some-brackets_after.field-0 in
    let both = begins s _ refl (opened + 1) _ c.brackets_after.ensures.begins (Some p) c.in-Some-brackets_after.is in
    subst (λ u. p.body < length u) (sym c.brackets_after.ensures.same) (body-place s (p.closed + 1) p.body both.1).1

pub block_at-block-requires-clause-brace : goal.block_at-block-requires-clause-brace
block_at-block-requires-clause-brace c =
    let s = bytes_of c.args.self.now in
    let to = c.args.to in
    let opened = c.in-Some.opened in
    let e₁ : find round_open to (drop to s) ≡ some opened = there s _ to c.bytes-s.ensures _ c.find.ensures opened c.in-Some.is in
    let p = c.in-Some-brackets_after.field-0 in
    let both = begins s _ refl (opened + 1) _ c.brackets_after.ensures.begins (Some p) c.in-Some-brackets_after.is in
    subst (λ u. get_or u p.body 0 ≡ brace_open) (sym c.brackets_after.ensures.same) (brace-there s (p.closed + 1) p.body (body-place s (p.closed + 1) p.body both.1).0 both.1)

pub returns-in-None-clause-signed : goal.returns-in-None-clause-signed
unfolding Barren
returns-in-None-clause-signed c =
    let s = bytes_of c.args.self.now in
    let to = c.args.to in
    let opened = c.in-Some.opened in
    let e₁ : find round_open to (drop to s) ≡ some opened = there s _ to c.bytes-s.ensures _ c.find.ensures opened c.in-Some.is in
    let p = c.in-Some-brackets_after.field-0 in
    let both = begins s _ refl (opened + 1) _ c.brackets_after.ensures.begins (Some p) c.in-Some-brackets_after.is in
    let never = subst (Blocked s p.body) c.in-None.is (subst (λ u. Blocked u p.body c.block_at-block.result) c.brackets_after.ensures.same c.block_at-block.ensures.block) in
    let gone = open_body s to opened e₁ p.closed both.0 p.body both.1 never in
    record { none_here = λ from. gone from to (omega arith) (omega (arith, find-place s to opened round_open e₁)); no_function = gone }

pub returns-in-Some-block-clause-signed : goal.returns-in-Some-block-clause-signed
returns-in-Some-block-clause-signed c =
    let s = bytes_of c.args.self.now in
    let to = c.args.to in
    let opened = c.in-Some.opened in
    let e₁ : find round_open to (drop to s) ≡ some opened = there s _ to c.bytes-s.ensures _ c.find.ensures opened c.in-Some.is in
    let p = c.in-Some-brackets_after.field-0 in
    let both = begins s _ refl (opened + 1) _ c.brackets_after.ensures.begins (Some p) c.in-Some-brackets_after.is in
    let block = subst (Blocked s p.body) c.in-Some-block.is (subst (λ u. Blocked u p.body c.block_at-block.result) c.brackets_after.ensures.same c.block_at-block.ensures.block) in
    let end = c.in-Some-block.b.end in
    let i₁ = find-place s to opened round_open e₁ in
    let i₂ = partner-place s (opened + 1) p.closed round_open round_close both.0 in
    let i₃ = body-place s (p.closed + 1) p.body both.1 in
    let i₄ = partner-place s (p.body + 1) end brace_open brace_close block.0 in
    record {
      name-first = i₁.0;
      list_order = omega (arith, i₂);
      list_first = omega (arith, i₃);
      body-order = omega (arith, i₄);
      inside = i₄.1;
      places = whole s to opened e₁ p.closed both.0 p.body both.1 end block.0;
      measured = block.1;
    }
