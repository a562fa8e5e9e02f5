-- The sums of a text's chunks. They are told once they are written.
use Rattle.std.specs.Prelude.{ℕ, ◌+◌, ◌*◌, ◌/◌, ◌≤◌, ◌<◌, ◌≡◌, List, Option, Some, None, eqb, length, get_or, set}
use Rattle.std.proofs.Common.{subst, sym, inl, inr, arith, eqb-true, get_or-set_other, get_or-set_same}
use Rattle.std.proofs.lemmas.Bool.{eqb-false}
use Rattle.text_rules.specs.BytesLaws.{whether}
use Rattle.chunks.specs.Passing.{LevelsFit, PassesBody, PassesRound}
use Rattle.chunks.specs.Sums.{nothing}
use Rattle.chunks.specs.declared.Far.TheVariants.{Often}
use Rattle.chunks.specs.declared.Sums.{Sums}
use Rattle.chunks.specs.declared.Table.{Table}

-- the sums of no bytes, which stand where none are written
abbrev pub no_sums : Sums
no_sums = record { round = record { closed = 0; opened = 0 }; body = nothing }

-- what the sums of the chunk at a place tell
pub record Describes (s : List ℕ) (at : ℕ) (x : Sums) : Type 0 where
  pub round : PassesRound s at (at + 4096) x.round
  pub opened-most : x.round.opened ≤ 4096
  pub body : PassesBody s at (at + 4096) x.body
  pub levels : LevelsFit x.body.ends

-- and the > that close a < from before are at most as many as 16 bits hold
pub record Entry (s : List ℕ) (at : ℕ) (x : Sums) : Type 0 where
  pub describes : Describes s at x
  pub downs_most : x.body.downs ≤ 65535

-- where the sums are written, each tells of its chunk
pub record Summed (s : List ℕ) (t : Table) : Type 0 where
  pub each : t.far ≡ Often → (j : ℕ) → j < 4096 → j * 4096 + 4096 ≤ length s → Entry s (j * 4096) (get_or t.sums j no_sums)

-- the same by `Describes`, which says nothing of the 16 bits
pub record Described (s : List ℕ) (t : Table) : Type 0 where
  pub each : t.far ≡ Often → (j : ℕ) → j < 4096 → j * 4096 + 4096 ≤ length s → Describes s (j * 4096) (get_or t.sums j no_sums)

pub described : (s : List ℕ) (t : Table) → Summed s t → Described s t
described s t h = record { each = λ w j few inside. (h.each w j few inside).describes }

-- what is told of the chunk at a place: its sums
abbrev pub TellsSums : (s : List ℕ) (at : ℕ) → Option Sums → Type 0
TellsSums s at (Some x) = (at + 4096 ≤ length s) × Entry s at x
TellsSums s at None = ℕ

-- what holds of the sums of each chunk holds of those that are kept for the chunk at a place
pub told_by : (P : ℕ → Sums → Type 0) (n : ℕ) (t : Table) (at : ℕ) → (t.far ≡ Often → (j : ℕ) → j < 4096 → j * 4096 + 4096 ≤ n → P (j * 4096) (get_or t.sums j no_sums))
    → t.far ≡ Often → at / 4096 < 4096 → at / 4096 * 4096 ≡ at → at + 4096 ≤ n → P at (get_or t.sums (at / 4096) no_sums)
told_by P n t at each w few edge inside = subst (λ p. P p (get_or t.sums (at / 4096) no_sums)) edge (each w (at / 4096) few (omega (arith, edge, inside)))

-- so they tell of that chunk
pub told : (s : List ℕ) (t : Table) (at : ℕ) → Summed s t → t.far ≡ Often → at / 4096 < 4096 → at / 4096 * 4096 ≡ at → at + 4096 ≤ length s
    → Entry s at (get_or t.sums (at / 4096) no_sums)
told s t at h = told_by (Entry s) (length s) t at h.each

-- the sums of the first chunks are written
abbrev pub Written : (s : List ℕ) (xs : List Sums) (many : ℕ) → Type 0
Written s xs many = (i : ℕ) → i < many → Entry s (i * 4096) (get_or xs i no_sums)

-- what is told of the first ones and of the next is told of all of these
pub all_more : (P : ℕ → Sums → Type 0) (xs : List Sums) (j : ℕ) (x : Sums) → j < length xs → P j x → ((i : ℕ) → i < j → P i (get_or xs i no_sums)) → (i : ℕ) → i < j + 1
    → P i (get_or (set xs j x) i no_sums)
all_more P xs j x l e before i k =
    elim (whether (eqb i j)) [
      | inl y ↦ subst (λ k. P k (get_or (set xs j x) k no_sums)) (sym (eqb-true i j y)) (subst (P j) (sym (get_or-set_same xs j x no_sums l)) e)
      | inr y ↦
          let d = eqb-false i j y in
          subst (P i) (sym (get_or-set_other xs j i x no_sums d)) (before i (omega (arith, d, k)))
    ]

-- those of the next chunk too
pub written_more : (s : List ℕ) (xs : List Sums) (j : ℕ) (x : Sums) → j < length xs → Entry s (j * 4096) x → Written s xs j → Written s (set xs j x) (j + 1)
written_more s = all_more (λ i. Entry s (i * 4096))
