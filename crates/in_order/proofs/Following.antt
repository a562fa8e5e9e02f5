-- A line that follows the last key: it has the path of that key and another key behind it.
use Rattle.std.specs.Prelude.{ℕ, Option, Some, None, ◌+◌, ◌-◌, ◌≤◌, ◌<◌, ◌≡◌, ◌≢◌, false, List, eqb, ltb, length, get_or}
use Rattle.std.proofs.Common.{ap, sym, ◌∙◌, inl, inr, arith, eqb-true, le-ltb, ltb-false, ltb-true}
use Rattle.std.proofs.Math.Option.{some}
use Rattle.std.proofs.lemmas.Bool.{eqb-false}
use Rattle.text_rules.specs.BytesLaws.{whether}
use Rattle.text_rules.specs.Classes.{tab}
use Rattle.text_rules.specs.Search.{part}
use Rattle.baseline.specs.Ordered.{fallen}
use Rattle.baseline.specs.Plain.{PlainKey, PlainLine}
use Rattle.baseline.specs.declared.Bounds.{Bounds}
use Rattle.live.specs.Live.{path_of}
use Rattle.prefix.specs.Common.{common}
use Rattle.key_lines.specs.Keys.{Meets, falls-past, falls-there, last-there, meets-line, repeats}
use Rattle.key_lines.specs.Meets.{part-begins, part-byte, part_length}
use Rattle.key_lines.specs.Next.{Behind, Follows, ReadOn}
use Rattle.key_lines.specs.PlainKeys.{few, moved-to}
use Rattle.key_lines.specs.declared.key.Key.{Key}
use Rattle.key_lines.proofs.LineKeys.{plain-past, plain-path}
use Rattle.in_order.specs.Paths.{same-path}
use Rattle.in_order.specs.Walks.{ReadNext}
use Rattle.in_order.specs.declared.walk.Walk.{Walk}

-- the line that was read, if one was
pub follows_read : (w : Walk) (k : Key) (r : Option Bounds) → w.last ≡ Some k → w.alike.to ≤ w.alike.from → ReadOn w.lines.now k w.from r → ReadNext w r
follows_read w k (Some l) e i f = record { last = k; last-is = e; idle = i; follows = f }
follows_read w k None e i f = tt

-- ---- the key of the line goes on behind what it has in common with the last one

module _ (s key : List ℕ) (from path name end n c : ℕ) (f : PlainKey key path) (p : PlainLine s from n name end) (h : from < length s)
    (e : c ≡ common key (part from (length s) s)) (k : path < c) (r : Behind s key from c) where
  -- no tab stands in what both have in common, but that behind the path
  one-tab : (i : ℕ) → from ≤ i → i < from + c → get_or s i 0 ≡ tab → i ≡ from + path
  one-tab i l m t =
      let at = moved-to s key from path c f h e k i l m in
      let room = few s key from path c f h e k in
      elim (whether (ltb i (from + path))) [
        | inl q ↦ absurd (omega (arith, at, t, ltb-true i (from + path) q, f.path (i - from) (omega arith) (omega (arith, ltb-true i (from + path) q))))
        | inr q ↦ elim (whether (eqb i (from + path))) [
          | inl d ↦ eqb-true i (from + path) d
          | inr d ↦
              let past : from + path < i = omega (arith, ltb-false i (from + path) q, eqb-false i (from + path) d) in
              absurd (omega (arith, at, t, f.name (i - from) (omega arith) (omega (arith, room))))
        ]
      ]

  -- where they differ no tab stands
  no-tab : get_or s (from + c) 0 ≢ tab
  no-tab t =
      let room = few s key from path c f h e k in
      elim (whether (ltb c (length key))) [
        | inl q ↦ omega (arith, t, r.2 (ltb-true c (length key) q), f.name c (omega arith) (ltb-true c (length key) q))
        | inr q ↦ r.1 (omega (arith, ltb-false c (length key) q, room)) t
      ]

  pub goes_past : c < name - from
  goes_past =
      let first = p.front.goes_on in
      elim (whether (ltb name (from + c))) [
        | inl q ↦
            let within = ltb-true name (from + c) q in
            let one = one-tab name (omega arith) within p.stop in
            absurd (omega (arith, one, one-tab (from + n) (omega arith) (omega arith) p.front.mark))
        | inr q ↦ elim (whether (eqb name (from + c))) [
          | inl d ↦ absurd (no-tab (sym (ap (λ (j : ℕ). get_or s j 0) (eqb-true name (from + c) d)) ∙ p.stop))
          | inr d ↦ omega (arith, ltb-false name (from + c) q, eqb-false name (from + c) d)
        ]
      ]

-- it is another key, and does not fall
module _ (s key : List ℕ) (from name c : ℕ) (j : (from ≤ name) × (name ≤ length s)) (m : Meets (some key) (part from name s) c) (r : Behind s key from c) (h : c < name - from) where
  pub other_key : (fallen (some key) (some (part from name s)) ≡ false) × (repeats (some key) (part from name s) ≡ false)
  other_key =
      let k = part_length s from name j in
      let falls : fallen (some key) (some (part from name s)) ≡ false = elim (whether (ltb c (length key))) [
        | inl q ↦
            let less = ltb-true c (length key) q in
            falls-there key (part from name s) c m (omega (arith, k)) less
            ∙ le-ltb (get_or (part from name s) c 0) (get_or key c 0) (omega (arith, r.2 less, part-byte s from name c h))
        | inr q ↦ falls-past key (part from name s) c m (omega (arith, k)) (ltb-false c (length key) q)
      ] in
      (falls, last-there key (part from name s) c m (omega (arith, k)))

-- ---- the line

module _ (s : List ℕ) (last : Key) (from : ℕ) (l : Bounds) (g : Follows s last from l) where
  pub follow-inside : (from ≤ l.name) × (l.name ≤ length s)
  follow-inside = (omega (arith, g.line.front.goes_on), g.line.front.inside)

  pub follow-meets : Meets (some last.bytes.now) (part from l.name s) g.shared
  follow-meets = meets-line (some last.bytes.now) (part from (length s) s) (part from l.name s) g.shared g.shared-is (part-begins s from l.name follow-inside)

  pub follow-own : path_of (part from l.name s) ≡ path_of last.bytes.now
  follow-own =
      let past = plain-past s from l.path l.name l.end g.line in
      let path = plain-path s from l.path l.name l.end g.line in
      same-path last.bytes.now (part from l.name s) last.path g.shared last.path_is (omega (arith, past, path)) g.same-path follow-meets

  pub follow-another : (fallen (some last.bytes.now) (some (part from l.name s)) ≡ false) × (repeats (some last.bytes.now) (part from l.name s) ≡ false)
  follow-another =
      let start : from < length s = omega (arith, follow-inside, g.line.front.goes_on) in
      let past = goes_past s last.bytes.now from last.path l.name l.end l.path g.shared (last.plain_key g.plain) g.line start g.shared-is g.same-path g.behind in
      other_key s last.bytes.now from l.name g.shared follow-inside follow-meets g.behind past
