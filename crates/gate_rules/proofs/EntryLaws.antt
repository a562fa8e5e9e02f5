-- What holds of the entries of every baseline: their numbers are within u32 and u64, and their keys fit into the baseline's bytes.
use Rattle.std.specs.Prelude.{ℕ, suc, ◌+◌, ◌≤◌, ◌<◌, ◌≡◌, refl, List, [], ◌∷◌, map, length}
use Rattle.std.proofs.Common.{subst, inl, inr, arith, length-append}
use Rattle.std.proofs.Math.Option.{Option, none, some}
use Rattle.text_rules.specs.Bytes.{All, present, total}
use Rattle.text_rules.specs.BytesLaws.{whether}
use Rattle.text_rules.specs.Decimal.{parse_number}
use Rattle.text_rules.proofs.DecimalLaws.{number_read}
use Rattle.text_rules.specs.Lines.{fields, lines_in}
use Rattle.text_rules.proofs.LinesLaws.{lines-total, split-total}
use Rattle.text_rules.specs.Utf8.{is_utf8}
use Rattle.gate_rules.specs.Baseline.{Entry, entries, entries_of_lines, entry_key, entry_of, entry_of_fields, entry_with}
use Rattle.gate_rules.specs.Functions.{is_comment}

pub record InRange (e : Entry) : Type 0 where
  pub cyclomatic_u32 : e.cyclomatic < 4294967296
  pub lines_u64 : e.lines < 18446744073709551616

-- an entry, and the bytes of the line that holds it: its key, two tabs and at least two digits
abbrev HeldBy : ℕ → Entry → Type 0
HeldBy size e = InRange e × (4 + length (entry_key e) ≤ size)

key-length : (e : Entry) → length (entry_key e) ≡ suc (length e.path + length e.name)
key-length e = simp length-append (omega arith)

entry_with_lem : (path name c l : List ℕ) (size : ℕ) → 3 + length path + length name + length c + length l ≤ size
    → (i j : Option ℕ) → parse_number 4294967295 c ≡ i → parse_number 18446744073709551615 l ≡ j → (e : Entry) → entry_with path name i j ≡ some e → HeldBy size e
entry_with_lem path name c l size h none j p q e r = let z : ◌≡◌ {A = ℕ} 0 1 = cc in absurd (omega arith)
entry_with_lem path name c l size h (some m) none p q e r = let z : ◌≡◌ {A = ℕ} 0 1 = cc in absurd (omega arith)
entry_with_lem path name c l size h (some m) (some n) p q e r =
    let d : Entry = record { path = path; name = name; cyclomatic = m; lines = n } in
    let same : d ≡ e = cc in
    let a = number_read 4294967295 c m p in
    let b = number_read 18446744073709551615 l n q in
    subst (HeldBy size) same (record { cyclomatic_u32 = omega arith; lines_u64 = omega arith }, omega (arith, key-length d))

entry-fields : (fs : List (List ℕ)) (size : ℕ) → total (λ p. suc (length p)) fs ≤ suc size → (e : Entry) → entry_of_fields fs ≡ some e → HeldBy size e
unfolding entry_of_fields
entry-fields [] size h e r = let z : ◌≡◌ {A = ℕ} 0 1 = cc in absurd (omega arith)
entry-fields (path ∷ []) size h e r = let z : ◌≡◌ {A = ℕ} 0 1 = cc in absurd (omega arith)
entry-fields (path ∷ name ∷ []) size h e r = let z : ◌≡◌ {A = ℕ} 0 1 = cc in absurd (omega arith)
entry-fields (path ∷ name ∷ c ∷ []) size h e r = let z : ◌≡◌ {A = ℕ} 0 1 = cc in absurd (omega arith)
entry-fields (path ∷ name ∷ c ∷ l ∷ more) size h e r = entry_with_lem path name c l size (omega arith) _ _ refl refl e r

entry-line : (line : List ℕ) (e : Entry) → entry_of line ≡ some e → HeldBy (length line) e
unfolding entry_of fields
entry-line line e r =
    elim (whether (is_comment line)) [
      | inl t ↦ let h : none ≡ some e = rw t at r in let z : ◌≡◌ {A = ℕ} 0 1 = cc in absurd (omega arith)
      | inr t ↦ entry-fields (fields line) (length line) (omega (arith, split-total 9 line)) e (rw t at r)
    ]

-- over all lines
abbrev Held : List (List ℕ) → List Entry → Type 0
Held lines es = All InRange es × (total (λ e. 4 + length (entry_key e)) es ≤ total length lines)

held-step : (line : List ℕ) (lines : List (List ℕ)) (o : Option Entry) → entry_of line ≡ o → Held lines (present (map entry_of lines)) → Held (line ∷ lines) (present (o ∷ map entry_of lines))
held-step line lines none q h = (h.0, omega arith)
held-step line lines (some e) q h = let here = entry-line line e q in ((here.0, h.0), omega arith)

held : (lines : List (List ℕ)) → Held lines (present (map entry_of lines))
held [] = (tt, omega arith)
held (line ∷ lines) = held-step line lines (entry_of line) refl (held lines)

-- an entry's numbers are in range
pub entries_range : (text : List ℕ) → All InRange (entries text)
unfolding entries entries_of_lines
entries_range text = elim (whether (is_utf8 text)) [ inl t ↦ rw t (held (lines_in text)).0 | inr t ↦ rw t tt ]

-- the keys of all entries, with four bytes more for each, fit into the baseline
pub keys_fit : (text : List ℕ) → total (λ e. 4 + length (entry_key e)) (entries text) ≤ length text
unfolding entries entries_of_lines
keys_fit text = elim (whether (is_utf8 text)) [ inl t ↦ rw t (omega (arith, (held (lines_in text)).1, lines-total text)) | inr t ↦ rw t (omega arith) ]
