-- What is found in the line at a place.
use Rattle.std.specs.Prelude.{ℕ, ◌+◌, ◌≤◌, ◌-◌, ◌<◌, ◌≡◌, true, List, length, take, drop, get_or}
use Rattle.std.specs.Option.{ForSome}
use Rattle.std.proofs.Common.{ap, sym, ◌∙◌, arith, length-drop, length-take, get_or-drop, get_or-take, take-take}
use Rattle.gate_rules.specs.Baseline.{entry_of}
use Rattle.baseline.specs.Plain.{PlainLine}
use Rattle.baseline.specs.Reads.{key_of_entry, line_at}
use Rattle.text_rules.specs.Search.{bytes_before, part}
use Rattle.key_lines.specs.Keys.{is_plain, text_of}
use Rattle.key_lines.specs.declared.found.Found.{Found}

-- the line at a place is plain
pub record PlainAt (s : List ℕ) (from : ℕ) : Type 0 where
  pub path : ℕ
  pub name : ℕ
  pub end : ℕ
  pub line : PlainLine s from path name end

-- a key stands at a place of a text
abbrev pub Stands : (s : List ℕ) → (from : ℕ) → (key : List ℕ) → Type 0
Stands s from k = (from + length k ≤ length s) × (part from (from + length k) s ≡ k)

-- it is found in the line that begins at a place
pub record InLine (lines : List ℕ) (from : ℕ) (here : Found) : Type 0 where
  pub ends : here.next ≡ from + bytes_before 10 (drop from lines) + 1
  pub inside : here.next ≤ length lines + 1
  pub key-is : text_of here.key ≡ key_of_entry (entry_of (line_at lines from (from + bytes_before 10 (drop from lines))))
  pub plain_at : is_plain here.key ≡ true → PlainAt lines from

-- and its key stands there
pub record OfLine (lines : List ℕ) (from : ℕ) (here : Found) : Type 0 where
  pub in_line : InLine lines from here
  pub stands : ForSome here.key (λ k. Stands lines from k.bytes.now)

pub part_length : (s : List ℕ) (a b : ℕ) → (a ≤ b) × (b ≤ length s) → length (part a b s) ≡ b - a
part_length s a b h = simp (length-take, length-drop) (omega arith)

pub part-byte : (s : List ℕ) (a b i : ℕ) → i < b - a → get_or (part a b s) i 0 ≡ get_or s (a + i) 0
part-byte s a b i h = get_or-take (b - a) (drop a s) i 0 h ∙ get_or-drop a s i 0

-- a part of a text is the beginning of all that stands from its start on
pub part-begins : (s : List ℕ) (from to : ℕ) → (from ≤ to) × (to ≤ length s) → part from to s ≡ take (length (part from to s)) (part from (length s) s)
part-begins s from to h =
    sym (take-take (to - from) (length s - from) (drop from s) (omega arith)) ∙ ap (λ (n : ℕ). take n (part from (length s) s)) (sym (part_length s from to h))
