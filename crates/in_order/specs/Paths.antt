-- The functions that may have a key with the path of the last one. Keys that stand next to each other mostly have one path.
use Rattle.std.specs.Prelude.{ℕ, Option, Some, ◌<◌, ◌≡◌, refl, List, length, get_or, ltb}
use Rattle.std.specs.Option.{ForSome}
use Rattle.std.proofs.Common.{ap, subst, sym, ◌∙◌, inl, inr, arith, ltb-false, ltb-true, take_all}
use Rattle.std.proofs.Math.Option.{some}
use Rattle.text_rules.proofs.LineForms.{piece-mark}
use Rattle.text_rules.specs.BytesLaws.{whether}
use Rattle.text_rules.specs.Classes.{tab}
use Rattle.text_rules.specs.Search.{bytes_before}
use Rattle.gate_rules.specs.Functions.{Fun}
use Rattle.live.specs.Live.{Only, path_of}
use Rattle.prefix.specs.Common.{common_bytes, common-path}
use Rattle.key_lines.specs.Keys.{Meets}
use Rattle.key_lines.specs.declared.key.Key.{Key}
use Rattle.listed_keys.specs.Plain.{no-mark}

-- no function but those from one number up to another has a key with the path of this one
abbrev pub Ranged : List Fun → Option Key → (from to : ℕ) → Type 0
Ranged fs last from to = ForSome last (λ l. (k : List ℕ) → path_of k ≡ path_of l.bytes.now → Only k fs from to)

-- a key that goes on behind its path, and has the path and the tab of the last one in common with it
module _ (l k : List ℕ) (n shared : ℕ) (p : n ≡ bytes_before tab l) (q : bytes_before tab k < length k) (h : n < shared) (m : Meets (some l) k shared) where
  past : n < length k
  past =
      let mark : get_or k (bytes_before tab k) 0 ≡ tab = piece-mark tab k 0 (bytes_before tab k) (omega arith) q in
      elim (whether (ltb n (length k))) [
        | inl t ↦ ltb-true n (length k) t
        | inr t ↦
            let short = ltb-false n (length k) t in
            absurd (no-mark tab l (bytes_before tab k) (omega (arith, p, q, short)) (common_bytes l k (bytes_before tab k) (omega (arith, m, h, q, short)) ∙ mark))
      ]

  pub same-path : path_of k ≡ path_of l
  same-path =
      ap path_of (sym (take_all (length k) k (omega arith)))
      ∙ (common-path l k (length k) (omega (arith, p, m, h, past)) (omega (arith, p, past))).1

-- the key itself, and another with its path
module _ (fs : List Fun) (from to : ℕ) where
  pub ranged_own : (k : Key) → ((j : List ℕ) → path_of j ≡ path_of k.bytes.now → Only j fs from to) → Ranged fs (Some k) from to
  ranged_own k r x e = let q : k ≡ x = cc in subst (λ y. (j : List ℕ) → path_of j ≡ path_of y.bytes.now → Only j fs from to) q r

  pub ranged_on : (last : Option Key) (l k : Key) → last ≡ Some l → path_of k.bytes.now ≡ path_of l.bytes.now → Ranged fs last from to → Ranged fs (Some k) from to
  ranged_on last l k e p r = ranged_own k (λ j q. r l e j (q ∙ p))

  pub ranged-only : (last : Option Key) (l : Key) → last ≡ Some l → Ranged fs last from to → Only l.bytes.now fs from to
  ranged-only last l e r = r l e l.bytes.now refl
