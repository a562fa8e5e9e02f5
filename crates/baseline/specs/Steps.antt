-- The entries of a baseline, line by line, as a loop over its lines meets them.
use Rattle.std.specs.Prelude.{ℕ, ◌+◌, ◌≤◌, ◌≡◌, refl, List, [], ◌∷◌, ◌++◌, map, ltb, length, drop}
use Rattle.std.proofs.Common.{ap, ◌∙◌, inl, inr, arith, drop_of_length-le, ltb-false, ltb-true}
use Rattle.std.proofs.Math.Option.{Option, none, some}
use Rattle.text_rules.specs.Bytes.{present}
use Rattle.text_rules.specs.BytesLaws.{whether}
use Rattle.text_rules.proofs.LineForms.{line-last, line-next}
use Rattle.text_rules.specs.Lines.{ended, fields, lines_in, split, without_cr}
use Rattle.text_rules.specs.Search.{bytes_before, part}
use Rattle.gate_rules.specs.Baseline.{Entry, entries_of_lines, entry_of, entry_of_fields}
use Rattle.gate_rules.specs.Functions.{is_comment}
use Rattle.baseline.specs.Reads.{line_at}

-- the entry of a line, as a list
abbrev pub entry_list : Option Entry → List Entry
entry_list none = []
entry_list (some e) = e ∷ []

first-line : (o : Option Entry) (os : List (Option Entry)) → present (o ∷ os) ≡ entry_list o ++ present os
first-line none os = refl
first-line (some e) os = refl

no_lines : entries_of_lines [] ≡ []
unfolding entries_of_lines lines_in ended split entry_of entry_of_fields fields is_comment
no_lines = refl

-- no line is left
pub entries-end : (s : List ℕ) (at : ℕ) → length s ≤ at → entries_of_lines (drop at s) ≡ []
entries-end s at h = ap entries_of_lines (drop_of_length-le s h) ∙ no_lines

-- a line, and the lines behind it
pub entries_next : (s : List ℕ) (from end : ℕ) → end ≡ from + bytes_before 10 (drop from s)
    → entries_of_lines (drop from s) ≡ entry_list (entry_of (line_at s from end)) ++ entries_of_lines (drop (end + 1) s)
unfolding entries_of_lines
entries_next s from end e =
    elim (whether (ltb end (length s))) [
      | inl t ↦
          rw (t, line-next s from end e (ltb-true end (length s) t))
          (first-line (entry_of (without_cr (part from end s))) (map entry_of (lines_in (drop (end + 1) s))))
      | inr t ↦
          let h : length s ≤ end = ltb-false end (length s) t in
          rw (t, line-last s from end e h, entries-end s (end + 1) (omega arith)) (first-line (entry_of (part from end s)) [])
    ]
