-- Lines one behind another that each add their key.
use Rattle.std.specs.Prelude.{ℕ, ◌+◌, ◌-◌, ◌≤◌, ◌≡◌, refl, false, List, [], ◌∷◌, ◌++◌, map}
use Rattle.std.specs.Borrow.{Bor}
use Rattle.std.proofs.Common.{ap, subst, sym, ◌∙◌, arith}
use Rattle.std.proofs.Math.Option.{Option, some}
use Rattle.text_rules.specs.Bytes.{among}
use Rattle.text_rules.specs.BytesLaws.{true_false}
use Rattle.text_rules.specs.Search.{part}
use Rattle.gate_rules.specs.Baseline.{entry_of}
use Rattle.gate_rules.specs.Functions.{key}
use Rattle.gate_rules.specs.Gate.{gate}
use Rattle.gate_rules.specs.Scan.{functions_of}
use Rattle.baseline.specs.Reads.{key_of_entry, line_at}
use Rattle.baseline.specs.declared.Bounds.{Bounds}
use Rattle.live.specs.Live.{Only, decided}
use Rattle.key_lines.specs.Keys.{repeats, text_of}
use Rattle.key_lines.specs.Meets.{PlainAt, part_length}
use Rattle.key_lines.specs.Next.{Follows}
use Rattle.key_lines.specs.declared.key.Key.{Key}
use Rattle.listed_keys.specs.KeyLines.{bytes_step, count-step, sizes_key}
use Rattle.listed_keys.specs.Wholes.{at-here, plain-count}
use Rattle.in_order.specs.InOrder.{added_by}
use Rattle.in_order.specs.Passing.{adds-key, come_line, known-rest, to_come}
use Rattle.in_order.specs.Rise.{risen_next}
use Rattle.in_order.specs.Runs.{Passed, Passes}
use Rattle.in_order.specs.Walks.{Followed, Follows_on}
use Rattle.in_order.specs.Whole.{plain-next}
use Rattle.in_order.specs.declared.walk.Walk.{Walk}
use Rattle.listing.specs.declared.Size.{Size}
use Rattle.functions.specs.declared.Functions.{Functions}
use Rattle.in_order.proofs.Following.{follow-another, follow-inside, follow-own}

pub passed_none : (tree s : List ℕ) (last : Option (List ℕ)) (from : ℕ) → Passed tree s last from 0 0 last from
passed_none tree s last from =
    record { onward = omega arith; few = omega arith; rises = λ u. u; counts = omega arith; sizes = omega arith; plain = λ p. p; keys = omega arith }

module _ (tree s : List ℕ) (last : Key) (from : ℕ) (l : Bounds) (g : Follows s last from l) (a b : ℕ) (idle : b ≤ a)
    (only : Only (part from l.name s) (functions_of gate tree) a b) where
  abbrev own : List ℕ
  own = part from l.name s

  read : some own ≡ key_of_entry (entry_of (line_at s from l.end))
  read = g.line.key-is ∙ ap (λ t. key_of_entry (entry_of t)) g.line.whole

  at : PlainAt s from
  at = record { path = l.path; name = l.name; end = l.end; line = g.line }

  unknown : among own (map key (functions_of gate tree)) ≡ false
  unknown =
      sym (decided own (functions_of gate tree) a b only false (λ e. absurd (true_false false e refl)) (λ e i j k. absurd (omega (arith, idle))))

  adds : added_by (map key (functions_of gate tree)) (some last.bytes.now) (some own) ≡ own ∷ []
  adds =
      adds-key (map key (functions_of gate tree)) (some last.bytes.now) own
      (sym (known-rest (repeats (some last.bytes.now) own) (among own (map key (functions_of gate tree))) (follow-another s last from l g).1) ∙ unknown)

  abbrev rest : List (List ℕ)
  rest = to_come tree s (some own) (l.end + 1)

  step : to_come tree s (some last.bytes.now) from ≡ own ∷ rest
  step = come_line tree s (some last.bytes.now) (some own) from l.end g.line.ends read ∙ ap (λ ks. ks ++ rest) adds

  pub passed-next : (first : Option (List ℕ)) (start count bytes more-count more-bytes : ℕ) → Passed tree s first start count bytes (some last.bytes.now) from
      → more-count ≡ count + 1 → more-bytes ≡ bytes + (3 + (l.name - from)) → Passed tree s first start more-count more-bytes (some own) (l.end + 1)
  passed-next first start count bytes more-count more-bytes p c d =
      let all = to_come tree s (some last.bytes.now) from in
      let size = part_length s from l.name (follow-inside s last from l g) in
      let inside = follow-inside s last from l g in
      record {
        onward = omega (arith, p.onward, g.line.within, inside, c);
        few = omega (arith, p.few, g.line.within, inside, d);
        rises = λ u. risen_next s (some last.bytes.now) (some own) from l.end (p.rises u) g.line.ends read (follow-another s last from l g).0;
        counts = omega (arith, c, p.counts, count-step all (own ∷ []) rest step);
        sizes = omega (arith, d, p.sizes, (sizes_key own).1, size, bytes_step all (own ∷ []) rest step);
        plain = λ q. plain-next s from l.end g.line.ends (p.plain q) (λ n. at-here s from at);
        keys = omega (arith, c, p.keys, plain-count s from at l.end g.line.ends);
      }

-- ---- of a walk

pub passes_none : (w : Walk) → Passes w (record { count = 0; bytes = 0 }) w
passes_none w = record { same = record { functions-is = refl; lines-is = refl }; lines = passed_none w.functions.tree.now w.lines.now (text_of w.last) w.from }

module _ (first old new : Walk) (l : Bounds) (size more : Size) (p : Passes first size old) (g : Follows_on old l) (f : Followed old l new) where
  abbrev s : List ℕ
  s = first.lines.now

  follows : Follows s g.last old.from l
  follows = subst (λ (t : Bor (List ℕ)). Follows t.now g.last old.from l) p.same.lines-is g.follows

  only : Only (part old.from l.name s) (functions_of gate first.functions.tree.now) old.alike.from old.alike.to
  only =
      subst (λ (t : Functions). Only (part old.from l.name s) (functions_of gate t.tree.now) old.alike.from old.alike.to) p.same.functions-is
      (old.ranged g.last g.last-is (part old.from l.name s) (follow-own s g.last old.from l follows))

  pub passes-next : more.count ≡ size.count + 1 → more.bytes ≡ size.bytes + (3 + (l.name - old.from)) → Passes first more new
  passes-next c d =
      let tree = first.functions.tree.now in
      let start = text_of first.last in
      let before = subst (λ t. Passed tree s start first.from size.count size.bytes t old.from) (ap text_of g.last-is) p.lines in
      let own = f.last-is ∙ ap (λ (t : Bor (List ℕ)). some (part old.from l.name t.now)) p.same.lines-is in
      let passed = passed-next tree s g.last old.from l follows old.alike.from old.alike.to g.idle only start first.from size.count size.bytes more.count more.bytes before c d in
      record {
        same = record { functions-is = f.same.functions-is ∙ p.same.functions-is; lines-is = f.same.lines-is ∙ p.same.lines-is };
        lines = subst (λ t. Passed tree s start first.from more.count more.bytes t new.from) (sym own)
            (subst (λ n. Passed tree s start first.from more.count more.bytes (some (part old.from l.name s)) n) (sym f.from-is) passed);
      }
