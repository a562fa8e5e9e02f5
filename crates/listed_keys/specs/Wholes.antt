-- The keys of lines that are plain or start with #, copied as they are found.
use Rattle.std.specs.Prelude.{ℕ, suc, ◌+◌, ◌-◌, ◌≤◌, ◌<◌, ◌≡◌, refl, ◌≢◌, true, not, eqb, ltb, length, take, drop, get_or, set}
use Rattle.std.proofs.Math.Path.{ap, ap₂}
use Rattle.std.proofs.Common.{subst, sym, ◌∙◌, inl, inr, arith, length-append, length-drop, length-take, drop-drop, get_or-drop, eq-eqb, ne_eqb}
use mathlib.Core.List.{List, [], ◌∷◌, ◌++◌, append_assoc}
use Rattle.std.proofs.Math.Option.{none, some}
use Rattle.text_rules.specs.Bytes.{ascii, joined, put_at}
use Rattle.text_rules.specs.BytesLaws.{map-append, whether}
use Rattle.text_rules.specs.Classes.{tab}
use Rattle.text_rules.proofs.LineForms.{part-joined, piece-mark}
use Rattle.text_rules.specs.Lines.{without_cr}
use Rattle.text_rules.proofs.ScanLaws.{bytes_before-more, bytes_before-stop, split}
use Rattle.text_rules.specs.Search.{bytes_before, part, run}
use Rattle.text_rules.proofs.SearchLaws.{run_length}
use Rattle.text_rules.proofs.WriterLaws.{put_first, put-none}
use Rattle.gate_rules.specs.Check.{listed, spaced}
use Rattle.gate_rules.specs.Baseline.{entry_of}
use Rattle.gate_rules.specs.Functions.{is_comment}
use Rattle.baseline.specs.Ordered.{keys-line, keys_in, one_key}
use Rattle.baseline.specs.Plain.{PlainLine, to-mark}
use Rattle.baseline.specs.Reads.{key_of_entry, line_at}
use Rattle.key_lines.specs.Meets.{PlainAt, part-byte}
use Rattle.listed_keys.specs.KeyLines.{key_lines, sizes-one}
use Rattle.listed_keys.specs.Plain.{Begins, PlainHere, begins-next, first_field, keys_at, line_end, no-mark, second_tab, tab_from}

-- ---- a field byte by byte

module _ (lines : List ℕ) (place : ℕ) where
  field_more : place < length lines → get_or lines place 0 ≢ tab → first_field (drop place lines) ≡ get_or lines place 0 ∷ first_field (drop (place + 1) lines)
  field_more h e =
      ap (λ n. take n (drop place lines)) (bytes_before-more lines place h tab e)
      ∙ ap (λ t. take (suc (bytes_before tab (drop (place + 1) lines))) t) (split lines place h)

  pub field_turn : (next : ℕ) (out whole : List ℕ) → place < length lines → get_or lines place 0 ≢ tab → next < length out
      → put_at next (first_field (drop place lines)) out ≡ whole → put_at (next + 1) (first_field (drop (place + 1) lines)) (set out next (get_or lines place 0)) ≡ whole
  field_turn next out whole h e k q =
      put_first next (get_or lines place 0) (first_field (drop (place + 1) lines)) out k ∙ ap (λ l. put_at next l out) (sym (field_more h e)) ∙ q

  pub field_end : (next : ℕ) (out whole : List ℕ) → bytes_before tab (drop place lines) ≡ 0 → put_at next (first_field (drop place lines)) out ≡ whole → out ≡ whole
  field_end next out whole e q = sym (put-none next out) ∙ ap (λ n. put_at next (take n (drop place lines)) out) (sym e) ∙ q

pub field_length : (t : List ℕ) → length (first_field t) ≡ bytes_before tab t
field_length t = length-take (bytes_before tab t) t ∙ (omega (arith, run_length (λ (b : ℕ). not (eqb b tab)) t))

-- ---- a key of two fields

-- a field has no tab
spaced_field : (t : List ℕ) → spaced (first_field t) ≡ first_field t
unfolding spaced run
spaced_field [] = refl
spaced_field (b ∷ t) =
    elim (whether (eqb b tab)) [
      | inl e ↦ rw (e, run)
      | inr e ↦ rw (e, run, e) (ap (λ l. b ∷ l) (spaced_field t))
    ]

module _ (s : List ℕ) (from : ℕ) (h : from ≤ length s) (k : second_tab s from < length s) where
  key-fields : part from (second_tab s from) s ≡ first_field (drop from s) ++ tab ∷ first_field (drop (tab_from s from + 1) s)
  key-fields =
      let n : ℕ = bytes_before tab (drop from s) in
      let m : ℕ = bytes_before tab (drop (tab_from s from + 1) s) in
      let mark : get_or (drop from s) n 0 ≡ tab = get_or-drop from s n 0 ∙ piece-mark tab s from (tab_from s from) refl (omega arith) in
      let there : from + (n + 1) ≡ tab_from s from + 1 = omega arith in
      let count : second_tab s from - from - (n + 1) ≡ m = omega arith in
      sym (part-joined (drop from s) n (second_tab s from - from) (omega arith) (omega (arith, length-drop from s)))
      ∙ ap₂ (λ (b : ℕ) (r : List ℕ). take n (drop from s) ++ b ∷ r) mark
      (ap (λ r. take (second_tab s from - from - (n + 1)) r) (drop-drop (n + 1) from s ∙ ap (λ (j : ℕ). drop j s) there) ∙ ap (λ (j : ℕ). take j (drop (tab_from s from + 1) s)) count)

  spaced-key : spaced (part from (second_tab s from) s) ≡ first_field (drop from s) ++ 32 ∷ first_field (drop (tab_from s from + 1) s)
  unfolding spaced
  spaced-key =
      ap spaced key-fields
      ∙ map-append _ (first_field (drop from s)) (tab ∷ first_field (drop (tab_from s from + 1) s))
      ∙ ap₂ (λ x y. x ++ 32 ∷ y) (spaced_field (drop from s)) (spaced_field (drop (tab_from s from + 1) s))

  pub key-line : joined (ascii "  " ∷ first_field (drop from s) ∷ ascii " " ∷ first_field (drop (tab_from s from + 1) s) ∷ ascii "\n" ∷ []) ≡ key_lines (part from (second_tab s from) s ∷ [])
  unfolding listed
  key-line =
      ap (λ l. 32 ∷ 32 ∷ l)
      (sym (ap (λ x. x ++ 10 ∷ []) spaced-key ∙ append_assoc (first_field (drop from s)) (32 ∷ first_field (drop (tab_from s from + 1) s)) (10 ∷ [])))

  pub line-size : 2 + bytes_before tab (drop from s) + 1 + bytes_before tab (drop (tab_from s from + 1) s) + 1 ≡ length (key_lines (part from (second_tab s from) s ∷ []))
  line-size =
      let path = first_field (drop from s) in
      let name = first_field (drop (tab_from s from + 1) s) in
      omega (
        arith,
        ap length key-line,
        length-append path (ascii " " ++ (name ++ ascii "\n")),
        length-append name (ascii "\n"),
        field_length (drop from s),
        field_length (drop (tab_from s from + 1) s),
      )

-- ---- a plain line

module _ (s : List ℕ) (from path name end : ℕ) (p : PlainLine s from path name end) where
  order : (from + path < name) × (name ≤ end) × (end < length s)
  order = (p.front.goes_on, omega (arith, p.within), p.inside)

  -- where the name begins, and where it ends
  first-tab : from + path ≡ tab_from s from
  first-tab =
      to-mark tab s path from (omega (arith, order)) (bytes_before-stop s (from + path) (omega (arith, order)) tab p.front.mark) (λ i h k e. omega (arith, p.front.path i h k))

  pub second-tab : name ≡ second_tab s from
  second-tab =
      let there : from + path + 1 + (name - (from + path + 1)) ≡ name = omega (arith, order) in
      let stop = ap (λ (j : ℕ). bytes_before tab (drop j s)) there ∙ bytes_before-stop s name (omega (arith, order)) tab p.stop in
      let ends = to-mark tab s (name - (from + path + 1)) (from + path + 1) (omega (arith, order)) stop (λ i h k e. omega (arith, p.front.name i h (omega arith))) in
      let after : tab_from s (from + path + 1) ≡ second_tab s from = ap (λ (j : ℕ). tab_from s (j + 1)) first-tab in
      omega (arith, ends, after, there)

  -- the line ends at the next LF behind the name
  pub rest-ends : name + bytes_before 10 (drop name s) ≡ end
  rest-ends =
      let there : name + (end - name) ≡ end = omega (arith, order) in
      let stop = ap (λ (j : ℕ). bytes_before 10 (drop j s)) there ∙ bytes_before-stop s end p.inside 10 line-mark in
      omega (arith, to-mark 10 s (end - name) name (omega (arith, order)) stop (λ i h k. within i (omega (arith, order)) (omega arith)))
    where
      line-mark : get_or s end 0 ≡ 10
      line-mark = piece-mark 10 s from end p.ends p.inside

      within : (i : ℕ) → from ≤ i → i < end → get_or s i 0 ≢ 10
      within i h k e =
          let there : from + (i - from) ≡ i = omega arith in
          no-mark 10 (drop from s) (i - from) (omega (arith, p.ends)) (get_or-drop from s (i - from) 0 ∙ ap (λ (j : ℕ). get_or s j 0) there ∙ e)

  -- its key, and those of the lines behind it
  pub plain-keys : keys_in (drop from s) ≡ (part from name s ∷ []) ++ keys_in (drop (end + 1) s)
  plain-keys = keys-line s from end (some (part from name s)) p.ends (p.key-is ∙ ap (λ l. key_of_entry (entry_of l)) p.whole)

  pub plain-key : keys_at s from ≡ part from name s ∷ []
  plain-key = sym (ap one_key (p.key-is ∙ ap (λ l. key_of_entry (entry_of l)) (p.whole ∙ ap (line_at s from) p.ends)))

  pub plain_size : 3 + (name - from) ≡ length (key_lines (part from name s ∷ []))
  plain_size = (sizes-one (part from name s ∷ []) s from name (omega (arith, order), omega (arith, order)) refl).1

  -- it is plain by the places where its fields end
  pub plain-here : PlainHere s from
  plain-here =
      let path-is : path ≡ tab_from s from - from = omega (arith, first-tab) in
      subst (λ (n : ℕ). PlainLine s from n (second_tab s from) (line_end s from)) path-is
      (subst (λ (n : ℕ). PlainLine s from path n (line_end s from)) second-tab (subst (PlainLine s from path name) p.ends p))

-- the same of a line that is plain, where its end is known
module _ (s : List ℕ) (from : ℕ) (p : PlainAt s from) where
  pub at-here : PlainHere s from
  at-here = plain-here s from p.path p.name p.end p.line

  module _ (end : ℕ) (e : end ≡ from + bytes_before 10 (drop from s)) where
    pub plain-count : length (keys_in (drop from s)) ≡ suc (length (keys_in (drop (end + 1) s)))
    plain-count =
        let same : p.end ≡ end = p.line.ends ∙ sym e in
        ap length (plain-keys s from p.path p.name p.end p.line ∙ ap (λ (j : ℕ). part from p.name s ∷ keys_in (drop (j + 1) s)) same)

-- ---- a line that starts with #

comment : (t : List ℕ) → get_or t 0 0 ≡ 35 → is_comment t ≡ true
unfolding is_comment
comment [] e = absurd (omega (arith, e))
comment (b ∷ t) e = eq-eqb b 35 e

-- it does so without a CR at its end too
comment-trimmed : (t : List ℕ) → get_or t 0 0 ≡ 35 → get_or (without_cr t) 0 0 ≡ 35
unfolding without_cr
comment-trimmed [] e = e
comment-trimmed (b ∷ []) e = rw (ne_eqb b 13 (λ q. omega (arith, e, q))) e
comment-trimmed (b ∷ c ∷ t) e = e

no_key : (t : List ℕ) → get_or t 0 0 ≡ 35 → key_of_entry (entry_of t) ≡ none
unfolding entry_of
no_key t e = rw (comment t e)

module _ (s : List ℕ) (from end : ℕ) (h : from < length s) (b : get_or s from 0 ≡ 35) (e : end ≡ from + bytes_before 10 (drop from s)) where
  pub note_key : key_of_entry (entry_of (line_at s from end)) ≡ none
  note_key =
      let there : from + 0 ≡ from = omega arith in
      let more = bytes_before-more s from h 10 (λ q. omega (arith, b, q)) in
      let first = part-byte s from end 0 (omega (arith, e, more)) ∙ ap (λ (j : ℕ). get_or s j 0) there ∙ b in
      elim (whether (ltb end (length s))) [
        | inl t ↦ rw t (no_key (without_cr (part from end s)) (comment-trimmed (part from end s) first))
        | inr t ↦ rw t (no_key (part from end s) first)
      ]

  pub note_keys : keys_in (drop from s) ≡ keys_in (drop (end + 1) s)
  note_keys = keys-line s from end none e (sym note_key)

-- ---- the line at a place, and those behind it

module _ (s : List ℕ) (from : ℕ) where
  pub line-keys : keys_in (drop from s) ≡ keys_at s from ++ keys_in (drop (line_end s from + 1) s)
  line-keys = keys-line s from (line_end s from) _ refl refl

  pub next-begins : line_end s from < length s → Begins s (line_end s from + 1)
  next-begins h = begins-next s (line_end s from) (piece-mark 10 s from (line_end s from) refl h)
