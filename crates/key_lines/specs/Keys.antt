-- The key of a line, and how it stands to the last key in front of it. Keys that stand next to each other mostly have one path.
use Rattle.std.specs.Prelude.{ℕ, Option, Some, None, ◌≤◌, ◌<◌, ◌≡◌, min, Bool, false, List, eqb, ltb, length, take, get_or}
use Rattle.std.proofs.Common.{ap, sym, ◌∙◌, arith, take_all}
use Rattle.std.proofs.Math.Option.{Option as MathOption, none, some}
use Rattle.text_rules.specs.Bytes.{before, same}
use Rattle.text_rules.specs.Classes.{tab}
use Rattle.text_rules.specs.Search.{bytes_before}
use Rattle.prefix.specs.Common.{before-past, before-there, before-within, common, common-least, common-most, common-path, common-take, common_with, same-there, same-within}
use Rattle.key_lines.specs.declared.key.Key.{Key}

-- the bytes of a key, and whether it is known to be plain
abbrev pub text_of : Option Key → MathOption (List ℕ)
text_of (Some k) = some k.bytes.now
text_of None = none

abbrev pub is_plain : Option Key → Bool
is_plain (Some k) = k.plain
is_plain None = false

-- the key is the last one before it
abbrev pub repeats : MathOption (List ℕ) → List ℕ → Bool
repeats none k = false
repeats (some l) k = same l k

-- the same of the key of a line, where there is one
abbrev pub repeats_last : (last key : MathOption (List ℕ)) → Bool
repeats_last last none = false
repeats_last last (some k) = repeats last k

-- a key is the beginning of its line
abbrev pub Begins : MathOption (List ℕ) → List ℕ → Type 0
Begins (some k) line = k ≡ take (length k) line
Begins none line = Unit {0}

-- how many bytes a key has, where there is one
abbrev pub size_of : MathOption (List ℕ) → ℕ
size_of none = 0
size_of (some k) = length k

-- So many bytes are common to the last key and a text that begins with a key: as far as the key goes, they are common to both keys, and they are no more
-- than the last key has.
abbrev pub Meets : MathOption (List ℕ) → List ℕ → ℕ → Type 0
Meets last k shared = (min shared (length k) ≡ common_with last k) × (shared ≤ size_of last)

-- a line that begins with the path and the tab of a key has the path
pub known-path : (l t : List ℕ) (n m : ℕ) → n ≡ bytes_before tab l → m ≡ common l t → n < m → (n ≡ bytes_before tab t) × (n ≤ length t)
known-path l t n m p e h =
    let most = common-most l t in
    let c = common-path l t (length t) (omega arith) (omega arith) in
    (p ∙ sym c.0 ∙ ap (bytes_before tab) (take_all (length t) t (omega arith)), omega arith)

-- the key at the beginning of a line
pub meets-line : (last : MathOption (List ℕ)) (line k : List ℕ) (shared : ℕ) → shared ≡ common_with last line → k ≡ take (length k) line → Meets last k shared
meets-line none line k shared e b = (omega (arith, e), omega (arith, e))
meets-line (some l) line k shared e b = (omega (arith, e, ap (common l) b, common-take l line (length k)), omega (arith, e, common-least l line))

-- how the key stands to the last one
module _ (l k : List ℕ) (shared : ℕ) (m : Meets (some l) k shared) where
  whole : take (length k) k ≡ k
  whole = take_all (length k) k (omega arith)

  pub falls-within : length k ≤ shared → before k l ≡ ltb (length k) (length l)
  falls-within h = sym (ap (λ j. before j l) whole) ∙ before-within l k (length k) (omega (arith, m))

  pub falls-past : shared < length k → length l ≤ shared → before k l ≡ false
  falls-past h i = sym (ap (λ j. before j l) whole) ∙ before-past l k (length k) (omega (arith, m)) (omega (arith, m))

  pub falls-there : shared < length k → shared < length l → before k l ≡ ltb (get_or k shared 0) (get_or l shared 0)
  falls-there h i =
      let e : common l k ≡ shared = omega (arith, m) in
      sym (ap (λ j. before j l) whole)
      ∙ before-there l k (length k) (omega (arith, m)) (omega arith) (omega (arith, m))
      ∙ ap (λ (n : ℕ). ltb (get_or k n 0) (get_or l n 0)) e

  pub last_within : length k ≤ shared → same l k ≡ eqb (length l) (length k)
  last_within h = sym (ap (same l) whole) ∙ same-within l k (length k) (omega (arith, m)) (omega arith)

  pub last-there : shared < length k → same l k ≡ false
  last-there h = sym (ap (same l) whole) ∙ same-there l k (length k) (omega (arith, m)) (omega arith)
