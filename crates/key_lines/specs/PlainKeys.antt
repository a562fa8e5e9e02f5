-- A line against the last key, where that is plain: what they have in common is not read again.
use Rattle.std.specs.Prelude.{ℕ, ◌+◌, ◌-◌, ◌≤◌, ◌<◌, ◌≡◌, List, length, get_or}
use Rattle.std.proofs.Common.{ap, sym, ◌∙◌, arith}
use Rattle.text_rules.specs.Search.{part}
use Rattle.baseline.specs.Plain.{Front, PlainKey}
use Rattle.prefix.specs.Common.{common, common_bytes, common-least, common-most}
use Rattle.key_lines.specs.Meets.{part-byte, part_length}

module _ (s k : List ℕ) (from path c : ℕ) (f : PlainKey k path) (h : from < length s) (e : c ≡ common k (part from (length s) s)) (p : path < c) where
  pub few : (c ≤ length k) × (c ≤ length s - from)
  few =
      let rest = part_length s from (length s) (omega arith, omega arith) in
      (omega (arith, e, common-least k (part from (length s) s)), omega (arith, e, rest, common-most k (part from (length s) s)))

  pub moved : (i : ℕ) → i < c → get_or k i 0 ≡ get_or s (from + i) 0
  moved i l = common_bytes k (part from (length s) s) i (omega (arith, e)) ∙ part-byte s from (length s) i (omega (arith, few))

  -- the same byte by its place in the text
  pub moved-to : (i : ℕ) → from ≤ i → i < from + c → get_or k (i - from) 0 ≡ get_or s i 0
  moved-to i l m =
      let there : from + (i - from) ≡ i = omega arith in
      moved (i - from) (omega arith) ∙ ap (λ (j : ℕ). get_or s j 0) there

  -- a line that goes on behind the path and the tab of a plain key
  pub line-front : Front s from (from + path) (from + c)
  line-front =
      let start : from + 0 ≡ from = omega arith in
      record {
        first = λ q. f.first (moved 0 (omega arith) ∙ ap (λ (j : ℕ). get_or s j 0) start ∙ q);
        begins = omega arith;
        path = λ i l m. omega (arith, moved-to i l (omega arith), f.path (i - from) (omega arith) (omega arith));
        mark = sym (moved path p) ∙ f.mark;
        goes_on = omega arith;
        name = λ i l m. omega (arith, moved-to i (omega arith) m, f.name (i - from) (omega arith) (omega (arith, few)));
        inside = omega (arith, few);
      }

-- the key of a plain line is plain
pub own-front : (s : List ℕ) (from path name : ℕ) → Front s from (from + path) name → PlainKey (part from name s) path
own-front s from path name f =
    let order : (from + path < name) × (name ≤ length s) = (f.goes_on, f.inside) in
    let size = part_length s from name (omega (arith, order), order.1) in
    let start : from + 0 ≡ from = omega arith in
    record {
      first = λ q. f.first (sym (part-byte s from name 0 (omega (arith, order)) ∙ ap (λ (j : ℕ). get_or s j 0) start) ∙ q);
      begins = omega arith;
      path = λ i l m. omega (arith, part-byte s from name i (omega (arith, order)), f.path (from + i) (omega arith) (omega arith));
      mark = part-byte s from name path (omega (arith, order)) ∙ f.mark;
      goes_on = omega (arith, size, order);
      name = λ i l m. omega (arith, part-byte s from name i (omega (arith, size)), f.name (from + i) (omega arith) (omega (arith, size)));
      inside = omega arith;
    }
