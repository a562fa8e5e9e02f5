-- Bytes of a text from a place on, so many of them.
use Rattle.std.specs.Prelude.{ℕ, zero, suc, ◌+◌, ◌-◌, ◌≤◌, ◌<◌, ◌≡◌, refl, ◌≢◌, List, eqb, ltb, length, get_or, drop}
use Rattle.std.proofs.Common.{ap, subst, sym, ◌∙◌, inl, inr, add-zero, arith}
use Rattle.std.proofs.Math.Numerals.{add-one}
use borrow.Author.Tests.{eq-eqb, eqb-true, eqb-false, ltb-false, ltb-true, ne_eqb}
use Rattle.text_rules.specs.BytesLaws.{whether}
use Rattle.text_rules.proofs.ScanLaws.{bytes_before-more}
use Rattle.text_rules.specs.Search.{bytes_before, count_after}

-- each of them passes
abbrev pub Every : (ℕ → Type 0) → List ℕ → (at many : ℕ) → Type 0
Every P s at many = (i : ℕ) → i < many → P (get_or s (at + i) 0)

-- none is x
abbrev pub Lacks : ℕ → List ℕ → (at many : ℕ) → Type 0
Lacks x s at many = Every (λ b. b ≢ x) s at many

-- each is below a number
abbrev pub Below : ℕ → List ℕ → (at many : ℕ) → Type 0
Below bound s at many = Every (λ b. b < bound) s at many

-- how many are x
unfoldable pub count_from : ℕ → List ℕ → (at many : ℕ) → ℕ
count_from x s at zero = 0
count_from x s at (suc many) = count_after x (get_or s (at + many) 0) (count_from x s at many)

pub count_none : (x : ℕ) (s : List ℕ) (at : ℕ) → count_from x s at 0 ≡ 0
unfolding count_from
count_none x s at = refl

-- one byte more
pub every_more : (P : ℕ → Type 0) (s : List ℕ) (at many : ℕ) → Every P s at many → P (get_or s (at + many) 0) → Every P s at (many + 1)
every_more P s at many h p i k =
    elim (whether (eqb i many)) [
      | inl e ↦ subst (λ j. P (get_or s (at + j) 0)) (sym (eqb-true i many e)) p
      | inr e ↦ h i (omega (arith, eqb-false i many e))
    ]

module _ (x : ℕ) (s : List ℕ) (at many : ℕ) where
  pub count-hit : get_or s (at + many) 0 ≡ x → count_from x s at (many + 1) ≡ count_from x s at many + 1
  unfolding count_from count_after
  count-hit e = rw (add-one many, add-one, eq-eqb (get_or s (at + many) 0) x e)

  pub count_miss : get_or s (at + many) 0 ≢ x → count_from x s at (many + 1) ≡ count_from x s at many
  unfolding count_from count_after
  count_miss n = rw (add-one many, ne_eqb (get_or s (at + many) 0) x n)

-- what was counted before is added
pub count-behind : (x b m n : ℕ) → count_after x b (m + n) ≡ m + count_after x b n
unfolding count_after
count-behind x b m n = elim (whether (eqb b x)) [ inl e ↦ rw e (omega arith) | inr e ↦ rw e ]

pub count_most : (x : ℕ) (s : List ℕ) (at many : ℕ) → count_from x s at many ≤ many
unfolding count_from count_after
count_most x s at zero = omega arith
count_most x s at (suc many) = elim (whether (eqb (get_or s (at + many) 0) x)) [ inl e ↦ rw e (omega (arith, count_most x s at many)) | inr e ↦ rw e (omega (arith, count_most x s at many)) ]

-- one, with others before it
pub count-one : (x : ℕ) (s : List ℕ) (at n : ℕ) → count_after x (get_or s at 0) n ≡ n + count_from x s at 1
unfolding count_from
count-one x s at n =
    let e : at ≡ at + 0 = omega arith in
    let d : n ≡ n + 0 = omega arith in
    ap (λ k. count_after x (get_or s at 0) k) d ∙ ap (λ j. count_after x (get_or s j 0) (n + 0)) e ∙ count-behind x (get_or s (at + 0) 0) n 0

-- some after others
pub count-sum : (x : ℕ) (s : List ℕ) (at many more : ℕ) → count_from x s at (many + more) ≡ count_from x s at many + count_from x s (at + many) more
unfolding count_from
count-sum x s at many zero =
    let e : many + 0 ≡ many = omega arith in
    let d : count_from x s at many ≡ count_from x s at many + 0 = omega arith in
    ap (λ k. count_from x s at k) e ∙ d
count-sum x s at many (suc more) =
    let e : many + suc more ≡ suc (many + more) = omega arith in
    let d : at + (many + more) ≡ at + many + more = omega arith in
    let b = get_or s (at + many + more) 0 in
    ap (λ k. count_from x s at k) e
    ∙ ap (λ j. count_after x (get_or s j 0) (count_from x s at (many + more))) d
    ∙ ap (λ k. count_after x b k) (count-sum x s at many more)
    ∙ count-behind x b (count_from x s at many) (count_from x s (at + many) more)

pub every_one : (P : ℕ → Type 0) (s : List ℕ) (at : ℕ) → P (get_or s at 0) → Every P s at 1
every_one P s at p i k = let e : at ≡ at + i = omega arith in subst (λ j. P (get_or s j 0)) e p

pub every-sum : (P : ℕ → Type 0) (s : List ℕ) (at many more : ℕ) → Every P s at many → Every P s (at + many) more → Every P s at (many + more)
every-sum P s at many more h g i k =
    elim (whether (ltb i many)) [
      | inl t ↦ h i (ltb-true i many t)
      | inr t ↦
          let o : many ≤ i = ltb-false i many t in
          let e : at + many + (i - many) ≡ at + i = omega arith in
          subst (λ j. P (get_or s j 0)) e (g (i - many) (omega arith))
    ]

-- n bytes that are not x stand before the first x
pub passed : (s : List ℕ) (x at n : ℕ) → at + n ≤ length s → Lacks x s at n → bytes_before x (drop at s) ≡ n + bytes_before x (drop (at + n) s)
passed s x at zero h l = rw (add-zero at) (omega arith)
passed s x at (suc n) h l =
    let e : at + n + 1 ≡ at + suc n = omega arith in
    omega (
      arith,
      passed s x at n (omega arith) (λ i k. l i (omega arith)),
      bytes_before-more s (at + n) (omega arith) x (l n (omega arith)),
      ap (λ j. bytes_before x (drop j s)) e,
    )
