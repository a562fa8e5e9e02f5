-- The entry of a line by the places where its fields end, and its key.
use Rattle.std.specs.Prelude.{ℕ, None, Some, ◌+◌, ◌-◌, ◌≤◌, ◌<◌, ◌≡◌, refl, List, [], ◌∷◌, ◌++◌, eqb, ltb, length, take, drop, get_or}
use Rattle.std.specs.Prelude.{Option as Read}
use Rattle.std.proofs.Math.Path.{ap}
use Rattle.std.proofs.Common.{ap₂, sym, ◌∙◌, inl, inr, arith}
use Rattle.std.proofs.Math.Option.{Option, none, some}
use borrow.Author.Tests.{eq-eqb, ltb-false, ltb-true, ne_eqb}
use Rattle.text_rules.specs.BytesLaws.{whether}
use Rattle.text_rules.specs.Decimal.{parse_number}
use Rattle.text_rules.proofs.LineForms.{part-joined, piece-last, piece-next}
use Rattle.text_rules.specs.Lines.{fields, split}
use Rattle.text_rules.specs.Search.{bytes_before, part}
use Rattle.gate_rules.specs.Baseline.{entry_of, entry_of_fields, entry_with}
use Rattle.gate_rules.specs.Functions.{is_comment, key_of}
use Rattle.baseline.specs.Reads.{Inside, PathEnds, entry_in, number_of}
use Rattle.baseline.specs.declared.Listed.{Listed}

-- what was read of a number field
pub was_read : (p q : Read ℕ) (x : Option ℕ) → number_of p ≡ x → p ≡ q → x ≡ number_of q
was_read p q x e f = sym e ∙ ap number_of f

module _ (path name : List ℕ) (x y : Option ℕ) where
  pub both_read : (m n : ℕ) → x ≡ some m → y ≡ some n → some (record { path = path; name = name; cyclomatic = m; lines = n }) ≡ entry_with path name x y
  both_read m n e f = sym (ap₂ (entry_with path name) e f)

  pub second_bad : (m : ℕ) → x ≡ some m → y ≡ none → none ≡ entry_with path name x y
  second_bad m e f = sym (ap₂ (entry_with path name) e f)

  pub first_bad : x ≡ none → none ≡ entry_with path name x y
  first_bad e = sym (ap (λ z. entry_with path name z y) e)

-- a line of which no entry was read has none
pub no_entry_reads : (line : List ℕ) (r : Read Listed) (a : ℕ) → entry_of line ≡ none → r ≡ None → Inside line r × (entry_in line r ≡ entry_of line) × PathEnds r a
no_entry_reads line r a e h = rw h (tt, sym e, tt)

first_byte : (line : List ℕ) → is_comment line ≡ eqb (get_or line 0 0) 35
unfolding is_comment
first_byte [] = refl
first_byte (b ∷ line) = refl

-- a field that begins at a place is there, whether a tab or the line ends it
some-piece : (s : List ℕ) (from end : ℕ) → end ≡ from + bytes_before 9 (drop from s) → (more : List (List ℕ)) × (split 9 (drop from s) ≡ part from end s ∷ more)
some-piece s from end e =
    elim (whether (ltb end (length s))) [
      | inl t ↦ (split 9 (drop (end + 1) s), piece-next 9 s from end e (ltb-true end (length s) t))
      | inr t ↦ ([], piece-last 9 s from end e (ltb-false end (length s) t))
    ]

module _ (line : List ℕ) where
  pub no-entry : get_or line 0 0 ≡ 35 → entry_of line ≡ none
  unfolding entry_of
  no-entry e = rw (first_byte line ∙ eq-eqb (get_or line 0 0) 35 e)

  module _ (h : get_or line 0 0 ≡ 35 → ⊥) (a : ℕ) (ea : a ≡ 0 + bytes_before 9 (drop 0 line)) where
    read : (pieces : List (List ℕ)) → split 9 (drop 0 line) ≡ pieces → entry_of line ≡ entry_of_fields pieces
    unfolding entry_of fields
    read pieces e = rw (first_byte line ∙ ne_eqb (get_or line 0 0) 35 h) (ap entry_of_fields e)

    pub one_field : length line ≤ a → entry_of line ≡ none
    unfolding entry_of_fields
    one_field k = read _ (piece-last 9 line 0 a ea k)

    module _ (ka : a < length line) (b : ℕ) (eb : b ≡ a + 1 + bytes_before 9 (drop (a + 1) line)) where
      first : (pieces : List (List ℕ)) → split 9 (drop (a + 1) line) ≡ pieces → entry_of line ≡ entry_of_fields (part 0 a line ∷ pieces)
      first pieces e = read _ (piece-next 9 line 0 a ea ka ∙ ap (λ r. part 0 a line ∷ r) e)

      pub two_fields : length line ≤ b → entry_of line ≡ none
      unfolding entry_of_fields
      two_fields k = first _ (piece-last 9 line (a + 1) b eb k)

      module _ (kb : b < length line) (c : ℕ) (ec : c ≡ b + 1 + bytes_before 9 (drop (b + 1) line)) where
        second : (pieces : List (List ℕ)) → split 9 (drop (b + 1) line) ≡ pieces → entry_of line ≡ entry_of_fields (part 0 a line ∷ part (a + 1) b line ∷ pieces)
        second pieces e = first _ (piece-next 9 line (a + 1) b eb kb ∙ ap (λ r. part (a + 1) b line ∷ r) e)

        pub three-fields : length line ≤ c → entry_of line ≡ none
        unfolding entry_of_fields
        three-fields k = second _ (piece-last 9 line (b + 1) c ec k)

        pub four-fields : c < length line → (d : ℕ) → d ≡ c + 1 + bytes_before 9 (drop (c + 1) line)
            → entry_of line ≡ entry_with (part 0 a line) (part (a + 1) b line) (parse_number 4294967295 (part (b + 1) c line)) (parse_number 18446744073709551615 (part (c + 1) d line))
        unfolding entry_of_fields
        four-fields kc d ed =
            let (more, e) = some-piece line (c + 1) d ed in
            second _ (piece-next 9 line (b + 1) c ec kc ∙ ap (λ r. part (b + 1) c line ∷ r) e)

-- the key of an entry stands in its line as it is: path, tab and name
pub own_key : (line : List ℕ) (l : Listed) → Inside line (Some l) → key_of (part 0 l.path_end line) (part (l.path_end + 1) l.name_end line) ≡ take l.name_end line
own_key line l h =
    let m : ℕ = l.path_end in
    let n : ℕ = l.name_end in
    let z : m - 0 ≡ m = omega arith in
    ap₂ (λ (i b : ℕ). take i line ++ b ∷ part (m + 1) n line) z (sym h.2) ∙ part-joined line m n h.0 (omega (arith, h.1))
