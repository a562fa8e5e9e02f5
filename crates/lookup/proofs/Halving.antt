-- Look-up by halves: places at which lines begin, what stands in front of them, and what is found behind them.
use Prim.Native.Nat.{ℕ, zero, suc, ◌+◌, ◌-◌, ◌≤◌, ◌<◌}
use mathlib.Core.Path.{◌≡◌, refl, ap, subst, sym, ◌∙◌}
use mathlib.Core.Logic.{inl, inr}
use mathlib.Core.Bool.{true, false}
use mathlib.Core.List.{List, [], ◌∷◌, ◌++◌, append_assoc, map}
use mathlib.Core.Option.{Option as MathOption, none, some}
use Rattle.std.specs.Prelude.{Option, None}
use native.Mathlib.Omega.{arith}
use lib.Dec.{eqb, ltb}
use lib.ListN.{length, drop, get_or, length-drop}
use lib.Seq.{get_or-drop}
use borrow.Author.Tests.{eq-eqb, ltb-false, ltb-true}
use Rattle.text_rules.specs.ByteOrder.{before_orders}
use Rattle.text_rules.specs.Bytes.{All, before, same}
use Rattle.text_rules.specs.BytesLaws.{All-append, All-map, map-append, same_true, true_false, whether}
use Rattle.text_rules.specs.Search.{bytes_before, run}
use Rattle.gate_rules.specs.Baseline.{Entry, entries_of_lines, entry_key, entry_of, later_of, lookup}
use Rattle.lookup.specs.Halves.{Below, Between, Leads, LeadsBelow, below, beyond, later}
use Rattle.baseline.specs.Ordered.{Unfalling, keys_in, one_key, unfalling_front, unfalling_rest}
use Rattle.baseline.specs.Reads.{accepted_by, key_of_entry, line_at}
use Rattle.baseline.specs.LinesOf.{LineAt, line-entries, line-keys}
use Rattle.baseline.specs.declared.Line.{Line}
use Rattle.baseline.specs.Steps.{entries_next, entry_list}
use Rattle.baseline.specs.declared.Recorded.{Recorded}
use Rattle.lookup.proofs.Finds.{found-start, found_from}
use Rattle.lookup.proofs.KeyOrder.{before-other}

-- a mark ends the bytes before it
mark-ends : (x : ℕ) (t : List ℕ) (n : ℕ) → n < length t → get_or t n 0 ≡ x → bytes_before x t ≤ n
unfolding run
mark-ends x [] n h e = absurd (omega arith)
mark-ends x (b ∷ t) zero h e = rw (eq-eqb b x e, run) (omega arith)
mark-ends x (b ∷ t) (suc n) h e =
    elim (whether (eqb b x)) [
      | inl q ↦ rw (q, run) (omega arith)
      | inr q ↦ rw (q, run) (omega (arith, mark-ends x t n (omega arith) e))
    ]

-- from the start of a line up to an LF stand whole lines
module _ (s : List ℕ) (at : ℕ) (k : at ≤ length s) (lf : get_or s (at - 1) 0 ≡ 10) where
  line-ends : (from : ℕ) → from < at → from + bytes_before 10 (drop from s) < at
  line-ends from h =
      let n : ℕ = at - 1 - from in
      let place : from + n ≡ at - 1 = omega arith in
      omega (arith, mark-ends 10 (drop from s) n (omega (arith, length-drop from s)) (get_or-drop from s n 0 ∙ ap (λ i. get_or s i 0) place ∙ lf))

  lines-between : (left from : ℕ) → at - from ≤ left → from < at → Between s from at
  lines-between zero from m h = absurd (omega arith)
  lines-between (suc left) from m h =
      let end : ℕ = from + bytes_before 10 (drop from s) in
      let here = entry_list (entry_of (line_at s from end)) in
      let line = entries_next s from end refl in
      elim (whether (ltb (end + 1) at)) [
        | inl t ↦
            let more = lines-between left (end + 1) (omega (arith, line-ends from h)) (ltb-true (end + 1) at t) in
            record { passed = here ++ more.passed; cut = line ∙ ap (λ es. here ++ es) more.cut ∙ sym (append_assoc here more.passed (entries_of_lines (drop at s))) }
        | inr t ↦
            let q : end + 1 ≡ at = omega (arith, line-ends from h, ltb-false (end + 1) at t) in
            record { passed = here; cut = line ∙ ap (λ i. here ++ entries_of_lines (drop i s)) q }
      ]

  pub between : (from : ℕ) → from < at → Between s from at
  between from h = lines-between (at - from) from (omega arith) h

pub between_none : (s : List ℕ) (from : ℕ) → Between s from from
between_none s from = record { passed = []; cut = refl }

-- the first entry from a place on: no line up to `at` has one
module _ (s : List ℕ) (from at : ℕ) (l : Line) (c : entries_of_lines (drop from s) ≡ entries_of_lines (drop at s)) (h : LineAt s at l) where
  line : entries_of_lines (drop from s) ≡ entry_list (entry_of l.bytes.now) ++ entries_of_lines (drop l.next s)
  line = c ∙ line-entries s at l h

  pub lead_found : (key : MathOption (List ℕ)) → key ≡ key_of_entry (entry_of l.bytes.now) → Leads s from key l.next
  lead_found key q = record { entry = entry_of l.bytes.now; cut = line; key-is = q }

  -- a line without a key is passed
  pub lead_past : none ≡ key_of_entry (entry_of l.bytes.now) → entries_of_lines (drop from s) ≡ entries_of_lines (drop l.next s)
  lead_past q = line ∙ ap (λ o. entry_list o ++ entries_of_lines (drop l.next s)) (absent (entry_of l.bytes.now) q)
    where
      absent : (o : MathOption Entry) → none ≡ key_of_entry o → o ≡ none
      absent none d = refl
      absent (some x) d = cc

-- in front of a key that stands before k, every key does
pub below-start : (s k : List ℕ) → Below s k 0
below-start s k = record { passed = []; cut = refl; all-before = tt }

module _ (s k : List ℕ) (rise : Unfalling (keys_in s)) (lo from : ℕ) (b : Below s k lo) (w : Between s lo from) where
  past-entry : (next : ℕ) (o : MathOption Entry) → entries_of_lines (drop from s) ≡ entry_list o ++ entries_of_lines (drop next s) → below (key_of_entry o) k ≡ true → Below s k next
  past-entry next none c h = absurd (true_false false h refl)
  past-entry next (some e) c h =
      let rest = entries_of_lines (drop next s) in
      let front = b.passed ++ w.passed in
      let all : entries_of_lines s ≡ front ++ e ∷ rest = b.cut ∙ ap (λ es. b.passed ++ es) (w.cut ∙ ap (λ es. w.passed ++ es) c) ∙ sym (append_assoc b.passed w.passed (e ∷ rest)) in
      let up : Unfalling (map entry_key front ++ entry_key e ∷ map entry_key rest) = subst Unfalling (ap (map entry_key) all ∙ map-append entry_key front (e ∷ rest)) rise in
      record {
        passed = front ++ e ∷ [];
        cut = all ∙ sym (append_assoc front (e ∷ []) rest);
        all-before = subst (All (λ j. before j k ≡ true)) (sym (map-append entry_key front (e ∷ [])))
            (All-append _ (map entry_key front) (entry_key e ∷ []) (All-map _ _ (λ j d. through j (entry_key e) d h) (map entry_key front) (unfalling_front (map entry_key front) (entry_key e) (map entry_key rest) up)) (h, tt));
      }
    where
      through : (j i : List ℕ) → before i j ≡ false → before i k ≡ true → before j k ≡ true
      through j i d g = elim (before_orders.splits i j k g) [ inl x ↦ absurd (true_false (before i j) x d) | inr x ↦ x ]

  pub below_next : (next : ℕ) → LeadsBelow s from k next → Below s k next
  below_next next l = past-entry next l.leads.entry l.leads.cut (sym (ap (λ o. below o k) l.leads.key-is) ∙ l.is_below)

-- entries with other keys
lookup_skip : (k : List ℕ) (ds es : List Entry) → All (λ j. same j k ≡ false) (map entry_key ds) → lookup k (ds ++ es) ≡ lookup k es
unfolding lookup
lookup_skip k [] es h = refl
lookup_skip k (d ∷ ds) es h = rw (h.0, lookup_skip k ds es h.1) (kept (lookup k es))
  where
    kept : (o : MathOption Entry) → later_of none o ≡ o
    kept none = refl
    kept (some e) = refl

lookup-none : (k : List ℕ) (es : List Entry) → All (λ j. same j k ≡ false) (map entry_key es) → lookup k es ≡ none
unfolding lookup
lookup-none k [] h = refl
lookup-none k (e ∷ es) h = rw (h.0, lookup-none k es h.1)

-- what is found from a place on, in front of which every key stands before k
pub found_below : (s k : List ℕ) (at : ℕ) → Below s k at → found_from None k s at ≡ accepted_by (lookup k (entries_of_lines s))
found_below s k at b =
    found-start k (drop at s)
    ∙ ap accepted_by (sym (ap (lookup k) b.cut ∙ lookup_skip k b.passed (entries_of_lines (drop at s)) (All-map _ _ (λ j e. before-other j k e) (map entry_key b.passed) b.all-before)))

-- and the keys from there on never fall
pub rest-rises : (s k : List ℕ) (at : ℕ) → Below s k at → Unfalling (keys_in s) → Unfalling (keys_in (drop at s))
rest-rises s k at b u = unfalling_rest (map entry_key b.passed) (keys_in (drop at s)) (subst Unfalling (ap (map entry_key) b.cut ∙ map-append entry_key b.passed (entries_of_lines (drop at s))) u)

module _ (s k : List ℕ) (from : ℕ) (l : Line) (h : LineAt s from l) (u : Unfalling (keys_in (drop from s))) where
  pub next-rises : Unfalling (keys_in (drop l.next s))
  next-rises =
      let o = key_of_entry (entry_of l.bytes.now) in
      unfalling_rest (one_key o) (keys_in (drop l.next s)) (subst Unfalling (line-keys s from l h o refl) u)

  -- behind a key that stands behind k there is none that is k
  others : (j : List ℕ) (js : List (List ℕ)) → Unfalling (j ∷ js) → before k j ≡ true → All (λ i. same i k ≡ false) (j ∷ js)
  others j js r h = (apart j (self j h), All-map _ _ (λ i d. apart i (other i d)) js r.0)
    where
      apart : (i : List ℕ) → (i ≡ k → ⊥) → same i k ≡ false
      apart i n = elim (whether (same i k)) [ inl x ↦ absurd (n (same_true i k x)) | inr x ↦ x ]

      self : (i : List ℕ) → before k i ≡ true → i ≡ k → ⊥
      self i g q = let z : before k k ≡ true = ap (before k) (sym q) ∙ g in before_orders.asym k k z z

      other : (i : List ℕ) → before i j ≡ false → i ≡ k → ⊥
      other i d q = true_false (before k j) h (ap (λ x. before x j) (sym q) ∙ d)

  none_left : (o : MathOption (List ℕ)) → o ≡ key_of_entry (entry_of l.bytes.now) → beyond o k ≡ true → lookup k (entries_of_lines (drop from s)) ≡ none
  none_left none q b = absurd (true_false false b refl)
  none_left (some j) q b =
      let keys : keys_in (drop from s) ≡ j ∷ keys_in (drop l.next s) = line-keys s from l h (some j) q in
      lookup-none k (entries_of_lines (drop from s)) (subst (All (λ i. same i k ≡ false)) (sym keys) (others j (keys_in (drop l.next s)) (subst Unfalling keys u) b))

  pub found-beyond : (found : Option Recorded) → beyond (key_of_entry (entry_of l.bytes.now)) k ≡ true → found_from found k s from ≡ found
  found-beyond found b = ap (λ o. later found (accepted_by o)) (none_left (key_of_entry (entry_of l.bytes.now)) refl b)
