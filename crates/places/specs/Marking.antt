-- The functions with a key get a place one after another, and the lines are gone through one after another.
use Rattle.std.specs.Prelude.{ℕ, suc, ◌+◌, ◌-◌, ◌≤◌, ◌<◌, ◌≡◌, refl, Bool, true, false, List, [], ◌∷◌, ◌++◌, eqb, ltb, length, drop, get_or, set}
use Rattle.std.proofs.Common.{ap, ◌∙◌, inl, inr, append_assoc, append-nil, arith, add-one, length-set, get_or-set_other, get_or-set_same, eqb-true, ltb-false, ltb-true}
use Rattle.std.proofs.Math.Path.{sym}
use Rattle.std.proofs.Math.Option.{Option, none, some}
use Rattle.std.proofs.lemmas.Bool.{eqb-false}
use Rattle.text_rules.specs.Bytes.{if◌then◌otherwise◌, same}
use Rattle.text_rules.specs.BytesLaws.{whether}
use Rattle.text_rules.specs.Search.{bytes_before}
use Rattle.gate_rules.specs.Baseline.{Entry, entries_of_lines, entry_key, entry_of, later_of, lookup}
use Rattle.gate_rules.proofs.BaselineLaws.{later_assoc, later-none}
use Rattle.gate_rules.specs.Functions.{Fun, key}
use Rattle.functions.specs.Shown.{no_fun}
use Rattle.baseline.specs.LinesOf.{LineAt, line-entries}
use Rattle.baseline.specs.declared.Line.{Line}
use Rattle.baseline.specs.Reads.{hit, key_of_entry, line_at}
use Rattle.baseline.specs.Steps.{entries-end, entry_list}
use Rattle.live.specs.Live.{Only}
use Rattle.places.specs.Places.{Filled, Marks, entry_at, lists, placed}

-- ---- the functions with a key

module _ (k : List ℕ) (place : ℕ) (fs : List Fun) (old : List ℕ) where
  -- what a function's place becomes
  abbrev marked : ℕ → ℕ
  marked i = if same k (key (get_or fs i no_fun)) then place otherwise get_or old i 0

  -- the functions in front of a number were asked
  pub record Marked (done : ℕ) (new : List ℕ) : Type 0 where
    pub same_length : length new ≡ length old
    pub early : (i : ℕ) → i < done → get_or new i 0 ≡ marked i
    pub late : (i : ℕ) → done ≤ i → get_or new i 0 ≡ get_or old i 0

  unmarked : (i : ℕ) → same k (key (get_or fs i no_fun)) ≡ false → get_or old i 0 ≡ marked i
  unmarked i e = rw e

  pub marked_start : (from to : ℕ) → Only k fs from to → Marked from old
  marked_start from to o = record { same_length = refl; early = λ i h. unmarked i (o.front i (omega arith) h); late = λ i h. refl }

  pub marked-end : (from to done : ℕ) (new : List ℕ) → Only k fs from to → to ≤ done → Marked done new → Marks (some k) place fs old new
  marked-end from to done new o h m =
      record {
        same_length = m.same_length;
        each = λ i l.
            elim (whether (ltb i done)) [
              | inl a ↦ m.early i (ltb-true i done a)
              | inr a ↦ let b = ltb-false i done a in m.late i b ∙ unmarked i (o.rest i (omega arith) l)
            ];
      }

  -- one function more
  module _ (n : ℕ) (new : List ℕ) (m : Marked n new) where
    pub marked_other : same k (key (get_or fs n no_fun)) ≡ false → Marked (n + 1) new
    marked_other e =
        record {
          same_length = m.same_length;
          early = λ i h.
              elim (whether (eqb i n)) [
                | inl a ↦ let q = eqb-true i n a in m.late i (omega arith) ∙ unmarked i (ap (λ j. same k (key (get_or fs j no_fun))) q ∙ e)
                | inr a ↦ m.early i (omega (arith, eqb-false i n a))
              ];
          late = λ i h. m.late i (omega arith);
        }

    pub marked_this : n < length new → same k (key (get_or fs n no_fun)) ≡ true → Marked (n + 1) (set new n place)
    marked_this l e =
        record {
          same_length = length-set new n place ∙ m.same_length;
          early = λ i h.
              elim (whether (eqb i n)) [
                | inl a ↦
                    let q = eqb-true i n a in
                    let here : place ≡ marked n = rw e in
                    ap (λ j. get_or (set new n place) j 0) q ∙ get_or-set_same new n place 0 l ∙ here ∙ ap marked (sym q)
                | inr a ↦ let q = eqb-false i n a in get_or-set_other new n i place 0 q ∙ m.early i (omega arith)
              ];
          late = λ i h. get_or-set_other new n i place 0 (λ q. omega arith) ∙ m.late i (omega arith);
        }

-- a line without a key
pub marks_none : (place : ℕ) (fs : List Fun) (old : List ℕ) → Marks none place fs old old
marks_none place fs old = record { same_length = refl; each = λ i h. refl }

-- ---- the lines

-- what is found in some lines and one more
one_more : (k : List ℕ) (seen : List Entry) (o : Option Entry) → lookup k (seen ++ entry_list o) ≡ later_of (lookup k seen) (hit k o)
unfolding lookup
one_more k [] none = refl
one_more k [] (some e) = sym (later-none (hit k (some e)))
one_more k (x ∷ seen) o = ap (later_of (hit k (some x))) (one_more k seen o) ∙ later_assoc (hit k (some x)) (lookup k seen) (hit k o)

module _ (s : List ℕ) (fs : List Fun) where
  -- the place of each function, by the lines in front of one
  pub record Seen (from : ℕ) (places : List ℕ) : Type 0 where
    pub seen : List Entry
    pub cut : entries_of_lines s ≡ seen ++ entries_of_lines (drop from s)
    pub room : length fs ≤ length places
    pub inside : (k : ℕ) → k < length fs → get_or places k 0 ≤ length s
    pub finds : (k : ℕ) → k < length fs → lookup (key (get_or fs k no_fun)) seen ≡ placed s (get_or places k 0)

  pub seen_start : (places : List ℕ) → length fs ≤ length places → ((k : ℕ) → k < length fs → get_or places k 0 ≡ 0) → Seen 0 places
  unfolding lookup
  seen_start places h z =
      record {
        seen = [];
        cut = refl;
        room = h;
        inside = λ k l. let e = z k l in omega arith;
        finds = λ k l. sym (ap (placed s) (z k l));
      }

  pub seen_end : (from : ℕ) (places : List ℕ) → length s ≤ from → Seen from places → Filled s fs places
  seen_end from places h u =
      let all : u.seen ≡ entries_of_lines s = sym (u.cut ∙ ap (λ es. u.seen ++ es) (entries-end s from h) ∙ append-nil u.seen) in
      record {
        inside = u.inside;
        finds = λ k l. ap (lookup (key (get_or fs k no_fun))) (sym all) ∙ u.finds k l;
      }

  -- what is found of a function in a line more, where that gets its place or it keeps its own
  found : (f : Fun) (o : Option Entry) (before : Option Entry) (from place old : ℕ) → before ≡ placed s old → o ≡ entry_at s from
      → place ≡ (if lists (key_of_entry o) f then from + 1 otherwise old) → later_of before (hit (key f) o) ≡ placed s place
  found f none before from place old b q e = b ∙ ap (placed s) (sym e)
  found f (some x) before from place old b q e =
      elim (whether (same (entry_key x) (key f))) [
        | inl t ↦
            let now : place ≡ from + 1 = rw t at e in
            rw t (q ∙ ap (placed s) (sym (now ∙ add-one from)))
        | inr t ↦
            let now : place ≡ old = rw t at e in
            rw t (b ∙ ap (placed s) (sym now))
      ]

  pub seen_next : (from : ℕ) (l : Line) → LineAt s from l → (k : Option (List ℕ)) (old new : List ℕ) → Seen from old → from < length s
      → k ≡ key_of_entry (entry_of l.bytes.now) → Marks k (from + 1) fs old new → Seen l.next new
  seen_next from l line k old new u inside q m =
      let o = entry_of l.bytes.now in
      let rest = entries_of_lines (drop l.next s) in
      let size = m.same_length in
      let here : o ≡ entry_at s from = ap entry_of line.text in
      record {
        seen = u.seen ++ entry_list o;
        cut = u.cut ∙ ap (λ es. u.seen ++ es) (line-entries s from l line) ∙ sym (append_assoc u.seen (entry_list o) rest);
        room = omega (arith, u.room);
        inside = λ i h. within (lists k (get_or fs i no_fun)) (u.inside i h) (m.each i h);
        finds = λ i h.
            one_more (key (get_or fs i no_fun)) u.seen o
            ∙ found (get_or fs i no_fun) o (lookup (key (get_or fs i no_fun)) u.seen) from (get_or new i 0) (get_or old i 0) (u.finds i h) here
            (m.each i h ∙ ap (λ j. if lists j (get_or fs i no_fun) then from + 1 otherwise get_or old i 0) q);
      }
    where
      within : (b : Bool) {old new : ℕ} → old ≤ length s → new ≡ (if b then from + 1 otherwise old) → new ≤ length s
      within true h e = omega arith
      within false h e = omega arith

-- ---- the line at a place

pub text-entry : (s : List ℕ) (place : ℕ) (text : List ℕ) → 1 ≤ place → text ≡ line_at s (place - 1) (place - 1 + bytes_before 10 (drop (place - 1) s)) → entry_of text ≡ placed s place
text-entry s place text h e =
    let there : suc (place - 1) ≡ place = omega arith in
    ap entry_of e ∙ ap (placed s) there

pub place-entry : (s : List ℕ) (place : ℕ) (l : Line) → 1 ≤ place → LineAt s (place - 1) l → entry_of l.bytes.now ≡ placed s place
place-entry s place l h line = text-entry s place l.bytes.now h line.text
