-- Bytes that are passed, and the lines that end among them.
use Rattle.std.specs.Prelude.{ℕ, ◌+◌, ◌≤◌, ◌<◌, ◌≡◌, refl, ◌≢◌, List, get_or, ltb}
use Rattle.std.proofs.Common.{ap, subst, ◌∙◌, inl, inr, arith, ltb-false, ltb-true}
use Rattle.text_rules.specs.BytesLaws.{whether}
use Rattle.text_rules.specs.Classes.{lf}
use Rattle.text_rules.specs.Search.{count_after}
use Rattle.blocks.specs.Blocks.{Every, count_most, count_none, count-one, count-sum, count_from, every_one, every-sum}
use Rattle.passing.specs.declared.Spot.{Spot}

abbrev pub Neither : (x y b : ℕ) → Type 0
Neither x y b = (b ≢ x) × (b ≢ y)

abbrev pub Any : ℕ → Type 0
Any b = Unit {0}

-- bytes before a place are passed, each of them one that may be, with the lines counted
pub record Passed (P : ℕ → Type 0) (s : List ℕ) (from start to : ℕ) (r : Spot) : Type 0 where
  pub many : ℕ
  pub at-is : r.at ≡ from + many
  pub line-is : r.line ≡ start + count_from lf s from many
  pub each : Every P s from many
  pub before : 0 < many → r.at ≤ to

-- bytes passed: none, one, a block, and some after others
module _ (P : ℕ → Type 0) (s : List ℕ) where
  pub passed_none : (from start to : ℕ) → Passed P s from start to (record { at = from; line = start })
  passed_none from start to = record { many = 0; at-is = omega arith; line-is = omega (arith, count_none lf s from); each = λ i k. absurd (omega arith); before = λ k. absurd (omega arith) }

  pub passed-block : (from start to many : ℕ) → from + many ≤ to → Every P s from many → (lines : ℕ) → lines ≡ count_from lf s from many → Passed P s from start to (record { at = from + many; line = start + lines })
  passed-block from start to many k each lines e = record { many = many; at-is = refl; line-is = ap (λ n. start + n) e; each = each; before = λ j. k }

  pub passed-byte : (from start to : ℕ) → from < to → P (get_or s from 0) → (next : ℕ) → next ≡ count_after lf (get_or s from 0) start → Passed P s from start to (record { at = from + 1; line = next })
  passed-byte from start to k p next e = record { many = 1; at-is = refl; line-is = e ∙ count-one lf s from start; each = every_one P s from p; before = λ j. omega arith }

  pub passed-more : (from start to : ℕ) (q r : Spot) → Passed P s from start to q → Passed P s q.at q.line to r → Passed P s from start to r
  passed-more from start to q r h g =
      let e : q.at ≡ from + h.many = h.at-is in
      let later : Every P s (from + h.many) g.many = subst (λ k. Every P s k g.many) e g.each in
      let lines : count_from lf s q.at g.many ≡ count_from lf s (from + h.many) g.many = ap (λ k. count_from lf s k g.many) e in
      record {
        many = h.many + g.many;
        at-is = omega (arith, g.at-is);
        line-is = omega (arith, lines, h.line-is, g.line-is, count-sum lf s from h.many g.many);
        each = every-sum P s from h.many g.many h.each later;
        before =
            λ j. elim (whether (ltb 0 g.many)) [
              | inl t ↦ g.before (ltb-true 0 g.many t)
              | inr t ↦ omega (arith, ltb-false 0 g.many t, g.at-is, h.before (omega (arith, ltb-false 0 g.many t)))
            ];
      }

-- a line is counted for a byte at most
pub passed-line : (P : ℕ → Type 0) (s : List ℕ) (from start to : ℕ) (r : Spot) → Passed P s from start to r → start ≤ from + 1 → r.line ≤ r.at + 1
passed-line P s from start to r p h = omega (arith, p.at-is, p.line-is, count_most lf s from p.many)
