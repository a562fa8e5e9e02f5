-- A walk that measures the stale keys: what is counted, and what the lines still to come add, is the whole.
use Rattle.std.specs.Prelude.{ℕ, Option, Some, None, ◌+◌, ◌≤◌, ◌<◌, ◌≡◌, ◌≢◌, refl, Bool, true, false, List, [], ◌++◌, eqb, length, drop, get_or, map}
use Rattle.std.specs.Borrow.{Bor}
use Rattle.std.specs.Option.{is_some}
use Rattle.std.proofs.Common.{ap, ap₂, subst, sym, ◌∙◌, inl, inr, arith, eqb-true}
use Rattle.std.proofs.Math.Option.{none}
use Rattle.std.proofs.lemmas.Bool.{eqb-false}
use Rattle.text_rules.specs.BytesLaws.{true_false, whether}
use Rattle.text_rules.specs.Search.{bytes_before}
use Rattle.text_rules.specs.Utf8.{is_utf8}
use Rattle.gate_rules.specs.Functions.{key}
use Rattle.gate_rules.specs.Gate.{gate}
use Rattle.gate_rules.specs.Scan.{functions_of}
use Rattle.functions.specs.declared.Functions.{Functions}
use Rattle.baseline.specs.Ordered.{Unfalling, fallen, keys-end, keys_in, one_key}
use Rattle.baseline.specs.Reads.{key_text}
use Rattle.key_lines.specs.Keys.{is_plain, text_of}
use Rattle.key_lines.specs.Meets.{InLine}
use Rattle.listed_keys.specs.KeyLines.{Sizes, bytes_step, count-step, key_lines, none_bytes}
use Rattle.listed_keys.specs.Wholes.{at-here, note_keys, plain-count}
use Rattle.listing.specs.declared.Size.{Size}
use Rattle.in_order.specs.InOrder.{added_by, last_after}
use Rattle.in_order.specs.Passing.{come_all, come_end, come_line, come_small, to_come}
use Rattle.in_order.specs.Rise.{Risen, risen_end, risen_next, risen_start}
use Rattle.in_order.specs.Runs.{Passed, Passes}
use Rattle.in_order.specs.StaleKeys.{stale_in}
use Rattle.in_order.specs.Walks.{Advances, Starts}
use Rattle.in_order.specs.Whole.{PlainTo, Whole, in_order-all, plain-next}
use Rattle.in_order.specs.declared.walk.Step.{Step}
use Rattle.in_order.specs.declared.walk.Walk.{Walk}

one-added : (o : Option (Bor (List ℕ))) → is_some o ≡ true → length (one_key (key_text o)) ≡ 1
one-added (Some k) e = refl
one-added None e = absurd (true_false false e refl)

module _ (tree s : List ℕ) where
  pub record Measured (w : Walk) (whole : Bool) (size : Size) : Type 0 where
    pub tree-is : w.functions.tree.now ≡ tree
    pub lines-is : w.lines.now ≡ s
    pub risen : Risen s (text_of w.last) w.from
    pub count : size.count + length (to_come tree s (text_of w.last) w.from) ≡ length (to_come tree s none 0)
    pub bytes : size.bytes + length (key_lines (to_come tree s (text_of w.last) w.from)) ≡ length (key_lines (to_come tree s none 0))
    pub plain : whole ≡ true → PlainTo s w.from × (length (keys_in s) ≤ size.count + length (keys_in (drop w.from s)))

  pub measured_start : (f : Functions) (b : Bor (List ℕ)) (w : Walk) (size : Size) → Starts f b w → f.tree.now ≡ tree → b.now ≡ s → size.count ≡ 0 → size.bytes ≡ 0
      → Measured w true size
  measured_start f b w size h t l c d =
      let last : text_of w.last ≡ none = ap text_of h.last-is in
      let same = ap₂ (to_come tree s) last h.from-is in
      record {
        tree-is = ap (λ (g : Functions). g.tree.now) h.functions-is ∙ t;
        lines-is = ap (λ (x : Bor (List ℕ)). x.now) h.lines-is ∙ l;
        risen = subst (λ o. Risen s o w.from) (sym last) (subst (λ n. Risen s none n) (sym h.from-is) (risen_start s));
        count = omega (arith, c, ap length same);
        bytes = omega (arith, d, ap (λ ks. length (key_lines ks)) same);
        plain = λ e. (λ i b k. absurd (omega (arith, k, h.from-is)), omega (arith, ap (λ (n : ℕ). length (keys_in (drop n s))) h.from-is));
      }

  module _ (w mid new : Walk) (whole : Bool) (size mine run : Size) (step : Step) (m : Measured w whole size) (h : Advances w step mid)
      (a : mine.count ≡ length (one_key (key_text step.added))) (b : mine.bytes ≡ length (key_lines (one_key (key_text step.added)))) where
    abbrev added : List (List ℕ)
    added = one_key (key_text step.added)

    abbrev end : ℕ
    end = w.from + bytes_before 10 (drop w.from s)

    line : InLine s w.from step.found
    line = subst (λ t. InLine t w.from step.found) m.lines-is h.line

    mid-from : mid.from ≡ end + 1
    mid-from = h.from-is ∙ line.ends

    come : to_come tree s (text_of w.last) w.from ≡ added ++ to_come tree s (text_of mid.last) mid.from
    come =
        let adds = subst (λ t. added ≡ added_by (map key (functions_of gate t)) (text_of w.last) (text_of step.found.key)) m.tree-is h.adds in
        come_line tree s (text_of w.last) (text_of step.found.key) w.from end refl line.key-is
        ∙ ap₂ (λ ks js. ks ++ js) (sym adds) (ap₂ (to_come tree s) (sym h.last-is) (sym mid-from))

    -- what is counted before the lines behind the step are passed
    pub step-fits : is_utf8 s ≡ true → (size.count + mine.count ≤ length s) × (size.bytes + mine.bytes ≤ length s)
    step-fits u =
        let small = come_small tree s u in
        let rest = to_come tree s (text_of mid.last) mid.from in (
          omega (arith, a, m.count, small.0, count-step (to_come tree s (text_of w.last) w.from) added rest come),
          omega (arith, b, m.bytes, small.1, bytes_step (to_come tree s (text_of w.last) w.from) added rest come),
        )

    module _ (r : Passes mid run new) where
      passed : Passed tree s (text_of mid.last) mid.from run.count run.bytes (text_of new.last) new.from
      passed =
          let t : mid.functions.tree.now ≡ tree = ap (λ (g : Functions). g.tree.now) h.same.functions-is ∙ m.tree-is in
          let l : mid.lines.now ≡ s = ap (λ (x : Bor (List ℕ)). x.now) h.same.lines-is ∙ m.lines-is in
          subst (λ (x : List ℕ). Passed tree x (text_of mid.last) mid.from run.count run.bytes (text_of new.last) new.from) l
          (subst (λ (x : List ℕ). Passed x mid.lines.now (text_of mid.last) mid.from run.count run.bytes (text_of new.last) new.from) t r.lines)

      -- and with them
      pub run-fits : is_utf8 s ≡ true → (size.count + mine.count + run.count ≤ length s) × (size.bytes + mine.bytes + run.bytes ≤ length s)
      run-fits u =
          let small = come_small tree s u in
          let rest = to_come tree s (text_of mid.last) mid.from in (
            omega (arith, a, m.count, small.0, passed.counts, count-step (to_come tree s (text_of w.last) w.from) added rest come),
            omega (arith, b, m.bytes, small.1, passed.sizes, bytes_step (to_come tree s (text_of w.last) w.from) added rest come),
          )

      module _ (more : Size) (c : more.count ≡ size.count + mine.count + run.count) (d : more.bytes ≡ size.bytes + mine.bytes + run.bytes) (still : Bool)
          (up : fallen (text_of w.last) (text_of step.found.key) ≡ false)
          (stays : still ≡ true → (whole ≡ true) × (get_or s w.from 0 ≢ 35 → (is_plain step.found.key ≡ true) × (is_some step.added ≡ true))) where
        still-plain : still ≡ true → PlainTo s new.from × (length (keys_in s) ≤ more.count + length (keys_in (drop new.from s)))
        still-plain e =
            let now = stays e in
            let before = m.plain now.0 in
            let first = get_or s w.from 0 in
            let there : w.from < length s = subst (λ t. w.from < length t) m.lines-is h.there in
            let behind = ap (λ (n : ℕ). length (keys_in (drop n s))) mid-from in (
              passed.plain (subst (PlainTo s) (sym mid-from) (plain-next s w.from end refl before.0 (λ n. at-here s w.from (line.plain_at (now.1 n).0)))),
              elim (whether (eqb first 35)) [
                | inl t ↦ omega (arith, before.1, passed.keys, behind, ap length (note_keys s w.from end there (eqb-true first 35 t) refl), c)
                | inr t ↦
                    let adds = now.1 (eqb-false first 35 t) in
                    omega (arith, before.1, passed.keys, behind, one-added step.added adds.1, a, plain-count s w.from (line.plain_at adds.0) end refl, c)
              ],
            )

        pub measured-next : Measured new still more
        measured-next =
            let rest = to_come tree s (text_of mid.last) mid.from in
            let next = risen_next s (text_of w.last) (text_of step.found.key) w.from end m.risen refl line.key-is up in
            record {
              tree-is = ap (λ (g : Functions). g.tree.now) (r.same.functions-is ∙ h.same.functions-is) ∙ m.tree-is;
              lines-is = ap (λ (x : Bor (List ℕ)). x.now) (r.same.lines-is ∙ h.same.lines-is) ∙ m.lines-is;
              risen = passed.rises (subst (λ o. Risen s o mid.from) (sym h.last-is) (subst (Risen s (last_after (text_of w.last) (text_of step.found.key))) (sym mid-from) next));
              count = omega (arith, c, a, m.count, passed.counts, count-step (to_come tree s (text_of w.last) w.from) added rest come);
              bytes = omega (arith, d, b, m.bytes, passed.sizes, bytes_step (to_come tree s (text_of w.last) w.from) added rest come);
              plain = still-plain;
            }

  module _ (w : Walk) (whole : Bool) (size : Size) (m : Measured w whole size) (h : length w.lines.now ≤ w.from) where
    ended : length s ≤ w.from
    ended = subst (λ t. length t ≤ w.from) m.lines-is h

    pub measured-rises : Unfalling (keys_in s)
    measured-rises = risen_end s (text_of w.last) w.from ended m.risen

    all : to_come tree s none 0 ≡ stale_in tree s
    all = come_all tree s measured-rises

    over : to_come tree s (text_of w.last) w.from ≡ []
    over = come_end tree s (text_of w.last) w.from ended

    pub measured-sizes : is_utf8 s ≡ true → length s ≤ 33554432 → Sizes size.count size.bytes (stale_in tree s)
    measured-sizes u short =
        let small = come_small tree s u in (
          omega (arith, m.count, ap length over, ap length all),
          omega (arith, m.bytes, none_bytes (to_come tree s (text_of w.last) w.from) over, ap (λ ks. length (key_lines ks)) all),
          omega (arith, m.count, small.0, short),
          omega (arith, m.bytes, small.1, short),
        )

    pub measured-whole : whole ≡ true → Whole tree s
    measured-whole e =
        let p = m.plain e in
        let enough : length (keys_in s) ≤ length (to_come tree s none 0) = omega (arith, m.count, ap length over, p.1, ap length (keys-end s w.from ended)) in
        record {
          all_plain = λ i b k. p.0 i b (omega (arith, k, ended));
          all-stale = sym all ∙ in_order-all (map key (functions_of gate tree)) none (keys_in s) enough;
        }
