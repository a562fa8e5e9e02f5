-- What is found in a line, and in the lines from a place on.
use Prim.Native.Nat.{ℕ, ◌≤◌}
use mathlib.Core.Path.{◌≡◌, refl, ap, ap₂, sym, ◌∙◌}
use mathlib.Core.Bool.{true, false}
use mathlib.Core.List.{List, ◌++◌}
use mathlib.Core.Option.{Option as MathOption, none, some}
use Rattle.std.specs.Option.{option_or}
use Rattle.std.specs.Prelude.{Option, Some, None}
use native.Mathlib.Omega.{arith}
use lib.ListN.{length, take, drop}
use Rattle.text_rules.specs.Bytes.{same}
use Rattle.gate_rules.specs.Baseline.{Entry, entries_of_lines, entry_of, later_of, lookup}
use Rattle.gate_rules.proofs.BaselineLaws.{later-none}
use Rattle.baseline.specs.Fields.{own_key}
use Rattle.lookup.specs.Halves.{later}
use Rattle.baseline.specs.Reads.{Inside, accepted_by, entry_in, hit}
use Rattle.baseline.specs.Steps.{entries-end, entry_list}
use Rattle.baseline.specs.LinesOf.{LineAt, line-entries}
use Rattle.baseline.specs.declared.Line.{Line}
use Rattle.baseline.specs.declared.Listed.{Listed}
use Rattle.baseline.specs.declared.Recorded.{Recorded}

-- a line whose entry has the key, one whose entry has another, and one without an entry
module _ (k line : List ℕ) (r : Option Listed) (inside : Inside line r) (is : entry_in line r ≡ entry_of line) where
  module _ (l : Listed) (e : r ≡ Some l) where
    here : Inside line (Some l)
    here = rw e at inside

    read : (t : Option Recorded) → accepted_by (hit k (entry_in line (Some l))) ≡ t → t ≡ accepted_by (hit k (entry_of line))
    read t h = sym h ∙ ap (λ o. accepted_by (hit k o)) (ap (entry_in line) (sym e) ∙ is)

    pub line-hit : (m : Recorded) → (m.cyclomatic ≡ l.cyclomatic) × (m.lines ≡ l.lines) → same (take l.name_end line) k ≡ true → Some m ≡ accepted_by (hit k (entry_of line))
    line-hit m q t = ap Some (ap₂ numbers q.0 q.1) ∙ read _ (rw (ap (λ s. same s k) (own_key line l here) ∙ t))
      where
        numbers : ℕ → ℕ → Recorded
        numbers c n = record { cyclomatic = c; lines = n }

    pub line_miss : same (take l.name_end line) k ≡ false → None ≡ accepted_by (hit k (entry_of line))
    line_miss t = read _ (rw (ap (λ s. same s k) (own_key line l here) ∙ t))

  pub line-none : r ≡ None → None ≡ accepted_by (hit k (entry_of line))
  line-none e = ap (λ o. accepted_by (hit k o)) (ap (entry_in line) (sym e) ∙ is)

-- the first line of several, then the others
first-find : (k : List ℕ) (o : MathOption Entry) (es : List Entry) → lookup k (entry_list o ++ es) ≡ later_of (hit k o) (lookup k es)
unfolding lookup
first-find k none es = sym (later-none (lookup k es))
first-find k (some e) es = refl

none-past : (k s : List ℕ) (at : ℕ) → length s ≤ at → lookup k (entries_of_lines (drop at s)) ≡ none
unfolding lookup
none-past k s at h = ap (lookup k) (entries-end s at h)

-- of finds, the last wins
later-two : (found : Option Recorded) (a b : MathOption Entry) → later found (accepted_by (later_of a b)) ≡ later (later found (accepted_by a)) (accepted_by b)
later-two found a none = refl
later-two found a (some e) = refl

-- `or`
pub or_later : (found next : Option Recorded) → option_or next found ≡ later found next
or_later found (Some m) = refl
or_later found None = refl

-- what is found up to a place, then what is found from there on
abbrev pub found_from : Option Recorded → List ℕ → List ℕ → ℕ → Option Recorded
found_from found k s at = later found (accepted_by (lookup k (entries_of_lines (drop at s))))

pub found-next : (found : Option Recorded) (k s : List ℕ) (from : ℕ) (l : Line) → LineAt s from l
    → found_from (later found (accepted_by (hit k (entry_of l.bytes.now)))) k s l.next ≡ found_from found k s from
found-next found k s from l h =
    let line = entry_of l.bytes.now in
    let rest = entries_of_lines (drop l.next s) in
    sym (later-two found (hit k line) (lookup k rest))
    ∙ ap (λ o. later found (accepted_by o)) (sym (ap (lookup k) (line-entries s from l h) ∙ first-find k line rest))

pub found-start : (k s : List ℕ) → found_from None k s 0 ≡ accepted_by (lookup k (entries_of_lines s))
found-start k s = unlisted (accepted_by (lookup k (entries_of_lines s)))
  where
    unlisted : (a : Option Recorded) → later None a ≡ a
    unlisted (Some m) = refl
    unlisted None = refl

pub found-end : (found : Option Recorded) (k s : List ℕ) (at : ℕ) → length s ≤ at → found_from found k s at ≡ found
found-end found k s at h = ap (λ o. later found (accepted_by o)) (none-past k s at h)

pub end-inside : (line : List ℕ) (r : Option Listed) (l : Listed) → Inside line r → r ≡ Some l → l.name_end ≤ length line
end-inside line r l h e = let k : Inside line (Some l) = rw e at h in omega (arith, k.1)
