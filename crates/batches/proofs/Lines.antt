-- The keys gathered of the lines that were read, line by line.
use Prim.Native.Nat.{ℕ, ◌+◌, ◌-◌, ◌≤◌, ◌<◌}
use mathlib.Core.Path.{◌≡◌, refl, ap, sym, ◌∙◌}
use mathlib.Core.Bool.{Bool, true, false}
use mathlib.Core.List.{List, [], ◌∷◌, map}
use mathlib.Core.Logic.{inl, inr}
use mathlib.Core.Option.{Option as MathOption, none, some}
use native.Mathlib.Omega.{arith}
use lib.Dec.{eqb, ltb}
use lib.ListN.{length, take, drop, length-drop, length-take}
use lib.Seq.{take-take, take_all}
use Rattle.text_rules.specs.Bytes.{if◌then◌otherwise◌, kept}
use Rattle.text_rules.specs.BytesLaws.{whether}
use Rattle.text_rules.specs.Lines.{without_cr}
use Rattle.text_rules.specs.Search.{bytes_before, part}
use Rattle.gate_rules.specs.Baseline.{entries_of_lines, entry_key, entry_of}
use Rattle.gate_rules.specs.Check.{stale}
use Rattle.gate_rules.specs.Functions.{Fun, key}
use Rattle.baseline.specs.LinesOf.{LineAt, line-keys}
use Rattle.baseline.specs.declared.Line.{Line}
use Rattle.baseline.specs.Ordered.{keys_in, one_key}
use Rattle.baseline.specs.Reads.{key_of_entry, line_at}
use Rattle.baseline.specs.Steps.{entries-end}
use Rattle.in_order.specs.StaleKeys.{behind}
use Rattle.batches.specs.Gathered.{gathered, gathered-append, gathered-is, gathered_none, gathered-one, gathered-take, one_more}

-- a line stands where it begins, and so does what it begins with
cut-most : (xs : List ℕ) → length (without_cr xs) ≤ length xs
unfolding without_cr
cut-most [] = omega arith
cut-most (b ∷ []) = elim (whether (eqb b 13)) [ inl e ↦ rw e (omega arith) | inr e ↦ rw e (omega arith) ]
cut-most (b ∷ c ∷ s) = omega (arith, cut-most (c ∷ s))

front-cr : (xs : List ℕ) (m : ℕ) → length (without_cr (take m xs)) ≤ m
front-cr xs m = omega (arith, cut-most (take m xs), length-take m xs)

trimmed : (xs : List ℕ) → take (length (without_cr xs)) xs ≡ without_cr xs
unfolding without_cr
trimmed [] = refl
trimmed (b ∷ []) = elim (whether (eqb b 13)) [ inl e ↦ rw e | inr e ↦ rw e ]
trimmed (b ∷ c ∷ s) = ap (λ t. b ∷ t) (trimmed (c ∷ s))

line_front : (s : List ℕ) (from end : ℕ) → take (length (line_at s from end)) (drop from s) ≡ line_at s from end
line_front s from end = by_end (ltb end (length s))
  where
    rest : List ℕ
    rest = drop from s

    by_end : (b : Bool) → take (length (if b then without_cr (part from end s) otherwise part from end s)) rest ≡ (if b then without_cr (part from end s) otherwise part from end s)
    by_end true = sym (take-take (length (without_cr (take (end - from) rest))) (end - from) rest (front-cr rest (end - from))) ∙ trimmed (take (end - from) rest)
    by_end false = sym (take-take (length (take (end - from) rest)) (end - from) rest (omega (arith, length-take (end - from) rest))) ∙ take_all (length (take (end - from) rest)) (take (end - from) rest) (omega arith)

module _ (s : List ℕ) (from : ℕ) (l : Line) (h : LineAt s from l) (inside : from < length s) (k : List ℕ) (f : k ≡ take (length k) l.bytes.now) (few : length k ≤ length l.bytes.now) where
  front : take (length l.bytes.now) (drop from s) ≡ l.bytes.now
  front = rw h.text (line_front s from (from + bytes_before 10 (drop from s)))

  pub key_stands : part from (from + length k) s ≡ k
  key_stands =
      let n : from + length k - from ≡ length k = omega arith in
      ap (λ m. take m (drop from s)) n
      ∙ sym (take-take (length k) (length l.bytes.now) (drop from s) few)
      ∙ ap (take (length k)) front
      ∙ sym f

  pub key_inside : from + length k ≤ length s
  key_inside = omega (arith, few, ap length front, length-take (length l.bytes.now) (drop from s), length-drop from s)

module _ (fs : List Fun) (last : MathOption (List ℕ)) (s : List ℕ) where
  -- with the keys from a place on, those that are held give the keys of all lines
  pub record Upto (ks : List (List ℕ)) (from : ℕ) : Type 0 where
    pub gives : take 8192 (gathered (map key fs) last ks (keys_in (drop from s))) ≡ take 8192 (gathered (map key fs) last [] (keys_in s))

  pub upto_start : (ks : List (List ℕ)) → ks ≡ [] → Upto ks 0
  upto_start ks e = record { gives = ap (λ js. take 8192 (gathered (map key fs) last js (keys_in s))) e }

  pub upto_next : (ks new : List (List ℕ)) (from : ℕ) (l : Line) → LineAt s from l → (k : MathOption (List ℕ)) → k ≡ key_of_entry (entry_of l.bytes.now)
      → take 8192 new ≡ take 8192 (gathered (map key fs) last ks (one_key k)) → Upto ks from → Upto new l.next
  upto_next ks new from l h k q e u =
      let live = map key fs in
      let one = one_key k in
      let rest = keys_in (drop l.next s) in
      record {
        gives =
            sym (gathered-take live last 8192 new rest)
            ∙ ap (λ js. take 8192 (gathered live last js rest)) e
            ∙ gathered-take live last 8192 (gathered live last ks one) rest
            ∙ ap (take 8192) (sym (gathered-append live last ks one rest) ∙ ap (gathered live last ks) (sym (line-keys s from l h k q)))
            ∙ u.gives;
      }

  -- a line with a key, and one without
  pub upto_key : (ks new : List (List ℕ)) (from : ℕ) (l : Line) → LineAt s from l → (k : List ℕ) → some k ≡ key_of_entry (entry_of l.bytes.now)
      → take 8192 new ≡ take 8192 (one_more (map key fs) last k ks) → Upto ks from → Upto new l.next
  upto_key ks new from l h k q e u = upto_next ks new from l h (some k) q (e ∙ ap (take 8192) (sym (gathered-one (map key fs) last ks k))) u

  pub upto_none : (ks : List (List ℕ)) (from : ℕ) (l : Line) → LineAt s from l → none ≡ key_of_entry (entry_of l.bytes.now) → Upto ks from → Upto ks l.next
  upto_none ks from l h q u = upto_next ks ks from l h none q (ap (take 8192) (sym (gathered_none (map key fs) last ks))) u

  pub upto_end : (ks : List (List ℕ)) (from : ℕ) → length s ≤ from → Upto ks from → take 8192 ks ≡ take 8192 (kept (behind last) (stale (entries_of_lines s) fs))
  upto_end ks from h u =
      let live = map key fs in
      ap (take 8192) (sym (gathered_none live last ks) ∙ ap (λ es. gathered live last ks (map entry_key es)) (sym (entries-end s from h)))
      ∙ u.gives
      ∙ ap (take 8192) (gathered-is (entries_of_lines s) fs last)
