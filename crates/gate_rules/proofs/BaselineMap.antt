-- The baseline as a map: its distinct keys in byte order, each with the last of its entries.
use Rattle.std.specs.Prelude.{ℕ, ◌≡◌, refl, ◌↔◌, Bool, false, List, [], ◌∷◌, map}
use Rattle.std.proofs.Common.{ap, sym, ◌∙◌, subst, inl, inr, arith}
use mathlib.Core.List.Memᴰ
use Rattle.std.proofs.Math.Option.{Option, none, some}
use Rattle.text_rules.specs.ByteOrder.{by-text}
use Rattle.text_rules.specs.Bytes.{◌∈◌, among, before, if◌then◌otherwise◌, same}
use Rattle.text_rules.specs.BytesLaws.{some_same, true_false, whether}
use Rattle.text_rules.specs.Order.{insert, sort}
use Rattle.text_rules.specs.Selection.{Rising}
use Rattle.text_rules.proofs.SortLaws.{sort-stable}
use Rattle.gate_rules.specs.Baseline.{Entry, entry_key, later_of, lookup}
use Rattle.gate_rules.proofs.BaselineLaws.{later-found, lookup-found, lookup-none, own-found}
use Rattle.gate_rules.specs.Check.{distinct}
use Rattle.gate_rules.proofs.StaleLaws.{among_in, among_true, distinct_apart, sort_strict}

-- the entries without those that a later one of the same key replaces
unfoldable pub last_only : List Entry → List Entry
last_only [] = []
last_only (e ∷ es) = if among (entry_key e) (map entry_key es) then last_only es otherwise e ∷ last_only es

abbrev pub key_before : Entry → Entry → Bool
key_before d e = before (entry_key d) (entry_key e)

-- those, in byte order of the whole key
unfoldable pub mapped : List Entry → List Entry
mapped es = sort key_before (last_only es)

-- keys that rise strictly, so each once; and exactly the entries that look-up finds
pub record MapOf (es ms : List Entry) : Type 0 where
  pub rising : Rising before (map entry_key ms)
  pub exact : (e : Entry) → (e ∈ ms) ↔ (lookup (entry_key e) es ≡ some e)

insert-keys : (e : Entry) (es : List Entry) → map entry_key (insert key_before e es) ≡ insert before (entry_key e) (map entry_key es)
unfolding insert
insert-keys e [] = refl
insert-keys e (d ∷ es) =
    elim (whether (before (entry_key d) (entry_key e))) [
      | inl t ↦ rw (t, insert-keys e es)
      | inr t ↦ rw t
    ]

sort-keys : (es : List Entry) → map entry_key (sort key_before es) ≡ sort before (map entry_key es)
unfolding sort
sort-keys [] = refl
sort-keys (e ∷ es) = insert-keys e (sort key_before es) ∙ ap (insert before (entry_key e)) (sort-keys es)

last-keys : (es : List Entry) → map entry_key (last_only es) ≡ distinct (map entry_key es)
unfolding last_only distinct
last-keys [] = refl
last-keys (e ∷ es) =
    elim (whether (among (entry_key e) (map entry_key es))) [
      | inl t ↦ rw t (last-keys es)
      | inr t ↦ rw (t, last-keys es)
    ]

absent : (k : List ℕ) (es : List Entry) → among k (map entry_key es) ≡ false → (o : Option Entry) → lookup k es ≡ o → lookup k es ≡ none
absent k es a none h = h
absent k es a (some e) h =
    let found = lookup-found k es e h in
    absurd (true_false (among k (map entry_key es)) (among_in (map entry_key es) (Memᴰ.cast (sym found.1) (Memᴰ.map entry_key found.0))) a)

last_found : (es : List Entry) {e : Entry} → e ∈ last_only es → lookup (entry_key e) es ≡ some e
unfolding last_only
last_found [] m = absurd (Memᴰ.not-nil m)
last_found (d ∷ es) {e} m =
    elim (whether (among (entry_key d) (map entry_key es))) [
      | inl t ↦ later-found (entry_key e) d es e (last_found es (rw t at m))
      | inr t ↦
          elim (Memᴰ.cases_cons (rw t at m)) [
            | inl q ↦ subst (λ x. lookup (entry_key x) (d ∷ es) ≡ some x) (sym q) (own-found d es (absent (entry_key d) es t (lookup (entry_key d) es) refl))
            | inr n ↦ later-found (entry_key e) d es e (last_found es n)
          ]
    ]

kept-later : (d : Entry) (es : List Entry) {e : Entry} → e ∈ last_only es → e ∈ last_only (d ∷ es)
unfolding last_only
kept-later d es m = elim (whether (among (entry_key d) (map entry_key es))) [ inl t ↦ rw t m | inr t ↦ rw t (Memᴰ.tail m) ]

kept_here : (d : Entry) (es : List Entry) → lookup (entry_key d) es ≡ none → d ∈ last_only (d ∷ es)
unfolding last_only
kept_here d es h =
    elim (whether (among (entry_key d) (map entry_key es))) [
      | inr t ↦ rw t (Memᴰ.head refl)
      | inl t ↦
          let (x, m, q) = Memᴰ.of_map entry_key es (among_true (entry_key d) (map entry_key es) t) in
          absurd (lookup-none (entry_key d) es h m q)
    ]

kept_step : (d : Entry) (es : List Entry) (e : Entry) → (lookup (entry_key e) es ≡ some e → e ∈ last_only es)
    → (o : Option Entry) → lookup (entry_key e) es ≡ o → later_of (if same (entry_key d) (entry_key e) then some d otherwise none) o ≡ some e → e ∈ last_only (d ∷ es)
kept_step d es e below (some x) q h = kept-later d es (below (q ∙ h))
kept_step d es e below none q h =
    elim (whether (same (entry_key d) (entry_key e))) [
      | inl t ↦
          let r : some d ≡ some e = rw t at h in
          let p : e ≡ d = sym (some_same d e r) in
          subst (λ x. x ∈ last_only (d ∷ es)) (sym p) (kept_here d es (subst (λ x. lookup (entry_key x) es ≡ none) p q))
      | inr t ↦ let r : none ≡ some e = rw t at h in let z : ◌≡◌ {A = ℕ} 0 1 = cc in absurd (omega arith)
    ]

found-last : (es : List Entry) (e : Entry) → lookup (entry_key e) es ≡ some e → e ∈ last_only es
unfolding lookup
found-last [] e h = let z : ◌≡◌ {A = ℕ} 0 1 = cc in absurd (omega arith)
found-last (d ∷ es) e h = kept_step d es e (λ k. found-last es e k) (lookup (entry_key e) es) refl h

pub mapped-is : (es : List Entry) → MapOf es (mapped es)
unfolding mapped
mapped-is es =
    let s = sort-stable key_before (by-text entry_key) (last_only es) in
    record {
      rising = subst (Rising before) (sym (sort-keys (last_only es) ∙ ap (sort before) (last-keys es))) (sort_strict (distinct (map entry_key es)) (distinct_apart (map entry_key es)));
      exact = λ e. (λ m. last_found es ((s.complete e).0 m), λ h. (s.complete e).1 (found-last es e h));
    }
