-- The lines of a text, one behind another, as an iterator gives them.
use Rattle.std.specs.Prelude.{ℕ, Option, Some, None, ◌+◌, ◌≤◌, ◌<◌, ◌≡◌, refl, List, ◌++◌, length, drop}
use Rattle.std.proofs.Common.{ap, ap₂, sym, ◌∙◌, arith}
use Rattle.std.proofs.Math.Option.{Option as MathOption}
use Rattle.text_rules.specs.Search.{bytes_before}
use Rattle.gate_rules.specs.Baseline.{entries_of_lines, entry_of}
use Rattle.baseline.specs.Ordered.{keys-line, keys_in, one_key}
use Rattle.baseline.specs.Reads.{key_of_entry, line_at}
use Rattle.baseline.specs.Steps.{entries_next, entry_list}
use Rattle.baseline.specs.declared.Line.{Line}
use Rattle.baseline.specs.declared.Lines.{Lines}

-- the line that begins at a place: its bytes, and where the line behind it begins
pub record LineAt (s : List ℕ) (from : ℕ) (l : Line) : Type 0 where
  pub begins : l.from ≡ from
  pub ends : l.next ≡ from + bytes_before 10 (drop from s) + 1
  pub inside : l.next ≤ length s + 1
  pub text : l.bytes.now ≡ line_at s from (from + bytes_before 10 (drop from s))

-- a call gave the line at the place of the iterator, which then stands behind it, or no line is left
abbrev pub LinesGive : Lines → Option Line → Lines → Type 0
LinesGive a (Some l) b = (a.at < length a.text.now) × LineAt a.text.now a.at l × (b.text.now ≡ a.text.now) × (b.at ≡ l.next)
LinesGive a None b = length a.text.now ≤ a.at

module _ (s : List ℕ) (from : ℕ) (l : Line) (h : LineAt s from l) where
  pub line-onward : from < l.next
  line-onward = omega (arith, h.ends)

  -- its entry, and those of the lines behind it
  pub line-entries : entries_of_lines (drop from s) ≡ entry_list (entry_of l.bytes.now) ++ entries_of_lines (drop l.next s)
  line-entries =
      entries_next s from (from + bytes_before 10 (drop from s)) refl
      ∙ ap₂ (λ (t : List ℕ) (n : ℕ). entry_list (entry_of t) ++ entries_of_lines (drop n s)) (sym h.text) (sym h.ends)

  -- its key, and those of the lines behind it
  pub line-keys : (k : MathOption (List ℕ)) → k ≡ key_of_entry (entry_of l.bytes.now) → keys_in (drop from s) ≡ one_key k ++ keys_in (drop l.next s)
  line-keys k e =
      keys-line s from (from + bytes_before 10 (drop from s)) k refl (e ∙ ap (λ t. key_of_entry (entry_of t)) h.text)
      ∙ ap (λ (n : ℕ). one_key k ++ keys_in (drop n s)) (sym h.ends)
