-- A key that is found in a line, and the last one.
use Rattle.std.specs.Prelude.{ℕ, Option, Some, ◌+◌, ◌-◌, ◌≤◌, ◌<◌, ◌≡◌, List, eqb, ltb, length, take, drop, get_or}
use Rattle.std.specs.Borrow.{Bor}
use Rattle.std.specs.Option.{ForSome}
use Rattle.std.proofs.Common.{ap, sym, subst, ◌∙◌, inl, inr, arith, eqb-true, length-take, ltb-false, ltb-true, take-take}
use Rattle.std.proofs.Math.Option.{Option as MathOption, some}
use Rattle.std.proofs.lemmas.Bool.{eqb-false}
use Rattle.text_rules.proofs.LineForms.{trim-cr, trim-none, trim-other}
use Rattle.text_rules.specs.BytesLaws.{whether}
use Rattle.text_rules.specs.Classes.{tab}
use Rattle.text_rules.specs.Search.{bytes_before, part}
use Rattle.baseline.specs.Plain.{PlainKey, PlainLine}
use Rattle.baseline.specs.Reads.{KeyFrom, key_text, line_at}
use Rattle.prefix.specs.Common.{common_with, front-path}
use Rattle.key_lines.specs.Keys.{Begins, Meets, known-path, meets-line, text_of}
use Rattle.key_lines.specs.Meets.{Stands, part_length}
use Rattle.key_lines.specs.PlainKeys.{own-front}
use Rattle.key_lines.specs.declared.key.Key.{Key}

-- a line with the path and the tab of the last key
pub last-path : (last : Option Key) (t : List ℕ) (m : ℕ) → m ≡ common_with (text_of last) t → (k : Key) → last ≡ Some k → k.path < m → (k.path ≡ bytes_before tab t) × (k.path ≤ length t)
last-path last t m e k q h = known-path k.bytes.now t k.path m k.path_is (e ∙ ap (λ o. common_with (text_of o) t) q) h

-- a key that goes past the path of its line has the path
pub own-path : (line k : List ℕ) (path : ℕ) → path ≡ bytes_before tab line → k ≡ take (length k) line → path < length k → path ≡ bytes_before tab k
own-path line k path e b h = e ∙ sym (ap (bytes_before tab) b ∙ front-path line (length k) (omega (arith, e)))

pub read-path : (o : Option (Bor (List ℕ))) (line : List ℕ) (path : ℕ) → KeyFrom (key_text o) line path → path ≡ bytes_before tab line → (k : Bor (List ℕ)) → o ≡ Some k → (path < length k.now) × (path ≡ bytes_before tab k.now)
read-path o line path f e k q =
    let g : KeyFrom (some k.now) line path = subst (λ r. KeyFrom (key_text r) line path) q f in
    (g.1, own-path line k.now path e g.0 g.1)

-- what a line has in common with the last key
pub found-meets : (last : MathOption (List ℕ)) (line : List ℕ) (o : Option Key) (shared : ℕ) → shared ≡ common_with last line → Begins (text_of o) line
    → ForSome o (λ k. Meets last k.bytes.now shared)
found-meets last line o shared e b k q = meets-line last line k.bytes.now shared e (subst (λ r. Begins (text_of r) line) q b)

-- a line stands in its text from its place on
line-part : (s : List ℕ) (from end : ℕ) → (from ≤ end) × (end ≤ length s) → (to : ℕ) × (line_at s from end ≡ part from to s) × (from ≤ to) × (to ≤ length s)
line-part s from end (h, k) =
    elim (whether (ltb end (length s))) [
      | inr t ↦ (end, rw t, h, k)
      | inl t ↦ elim (whether (ltb from end)) [
        | inr u ↦ (end, rw t (trim-none s from end (ltb-false from end u)), h, k)
        | inl u ↦
            let m = ltb-true from end u in
            elim (whether (eqb (get_or s (end - 1) 0) 13)) [
              | inl v ↦ (end - 1, rw t (trim-cr s from end m k (eqb-true (get_or s (end - 1) 0) 13 v)), omega (arith, m), omega (arith, k))
              | inr v ↦ (end, rw t (trim-other s from end m k (eqb-false (get_or s (end - 1) 0) 13 v)), h, k)
            ]
      ]
    ]

-- the beginning of a part of a text stands where the part does
front-stands : (s k : List ℕ) (from to : ℕ) → (from ≤ to) × (to ≤ length s) → k ≡ take (length k) (part from to s) → Stands s from k
front-stands s k from to h b =
    let size : length k ≤ to - from = omega (arith, part_length s from to h, ap length b, length-take (length k) (part from to s)) in
    let same : from + length k - from ≡ length k = omega arith in (
      omega (arith, size, h),
      ap (λ (n : ℕ). take n (drop from s)) same ∙ sym (take-take (length k) (to - from) (drop from s) size) ∙ sym b,
    )

-- a key that begins the line at a place stands at that place
pub any-stands : (s line : List ℕ) (from end : ℕ) (o : Option Key) → (from ≤ end) × (end ≤ length s) → line ≡ line_at s from end → Begins (text_of o) line
    → ForSome o (λ k. Stands s from k.bytes.now)
any-stands s line from end o h e b k q =
    let (to, p, m, n) = line-part s from end h in
    let own : k.bytes.now ≡ take (length k.bytes.now) line = subst (λ r. Begins (text_of r) line) q b in
    front-stands s k.bytes.now from to (m, n) (own ∙ ap (take (length k.bytes.now)) (e ∙ p))

-- the key of a plain line
module _ (s : List ℕ) (from path name end : ℕ) (p : PlainLine s from path name end) where
  pub plain-inside : (from ≤ name) × (name ≤ length s)
  plain-inside = (omega (arith, p.front.goes_on), p.front.inside)

  pub plain-past : path < length (part from name s)
  plain-past = p.key_from.1

  pub plain-inside-key : (k : Key) → k.bytes.now ≡ part from name s → k.path ≡ path → ForSome (Some k) (λ j. j.path < length j.bytes.now)
  plain-inside-key k e q j r =
      let same : k ≡ j = cc in
      subst (λ i. i.path < length i.bytes.now) same (omega (arith, plain-past, ap length e, q))

  pub plain-path : path ≡ bytes_before tab (part from name s)
  plain-path = own-path (part from end s) (part from name s) path p.path-is p.key_from.0 p.key_from.1

  pub plain-own : PlainKey (part from name s) path
  plain-own = own-front s from path name p.front

-- both keys
pub both-meet : (last key : Option Key) (shared : ℕ) → ForSome key (λ k. Meets (text_of last) k.bytes.now shared) → (k l : Key) → key ≡ Some k → last ≡ Some l
    → Meets (some l.bytes.now) k.bytes.now shared
both-meet last key shared m k l p q = subst (λ o. Meets (text_of o) k.bytes.now shared) q (m k p)
