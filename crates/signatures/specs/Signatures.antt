-- The search for the end of a list of parameters and for the brace of the body behind it, and what it answers.
use Rattle.std.specs.Prelude.{ℕ, ◌+◌, ◌≡◌, List, Option, None, Some}
use Rattle.std.proofs.Common.{ap, subst, sym, ◌∙◌, arith}
use Rattle.std.proofs.Math.Option.{none, some}
use Rattle.text_rules.specs.BytesLaws.{some_same}
use Rattle.flat.specs.Body.{Counted, body_from}
use Rattle.flat.specs.declared.Counts.{Counts}
use Rattle.chunks.specs.Passing.{TellsDepth}
use Rattle.memo.specs.Memo.{Known}
use Rattle.parts.specs.Told.{NoBody, body_behind, no-brace, no_end, sought_from}
use Rattle.signatures.specs.declared.Signature.{Signature}

-- a search goes on behind a chunk that it passes
pub sought-past : (s : List ℕ) (at depth d : ℕ) → TellsDepth s at depth (Some d) → sought_from s at depth ≡ sought_from s (at + 4096) d
sought-past s at depth d e =
    let before : depth ≡ depth + 0 = omega arith in
    let behind : d + 0 ≡ d = omega arith in
    ap (sought_from s at) before ∙ e.2 0 ∙ ap (sought_from s (at + 4096)) behind

-- at the start of a search for a body nothing is counted
abbrev pub nothing_counted : Counts
nothing_counted = record { angle = 0; opened = 0; closed = 0 }

pub nothing_same : (n : Counts) → (n.angle ≡ 0) × ((n.opened ≡ 0) × (n.closed ≡ 0)) → n ≡ nothing_counted
nothing_same n e = λ i. record { angle = e.0 i; opened = e.1.0 i; closed = e.1.1 i }

-- the search for the body behind a list begins so
pub nothing-begins : (s : List ℕ) (closed : ℕ) (n : Counts) → n ≡ nothing_counted → Counted n (closed + 1) × (body_behind s closed ≡ body_from s (closed + 1) n)
nothing-begins s closed n e = (
  subst (λ k. Counted k (closed + 1)) (sym e) (record { angle_most = omega arith; opened-most = omega arith; closed-most = omega arith }),
  ap (body_from s (closed + 1)) (sym e),
)

-- what follows a bracket that stands before a place
abbrev pub Begins : List ℕ → (from : ℕ) → Option Signature → Type 0
Begins s from (Some r) = (sought_from s from 0 ≡ some r.closed) × (body_behind s r.closed ≡ some r.body)
Begins s from None = NoBody s from

-- what follows a list that ends at a place
abbrev pub Follows : List ℕ → (closed : ℕ) → Option Signature → Type 0
Follows s closed (Some r) = (closed ≡ r.closed) × (body_behind s closed ≡ some r.body)
Follows s closed None = body_behind s closed ≡ none

pub follows_begins : (s : List ℕ) (from closed : ℕ) (r : Option Signature) → sought_from s from 0 ≡ some closed → Follows s closed r → Begins s from r
follows_begins s from closed (Some r) e f = (e ∙ ap some f.0, subst (λ n. body_behind s n ≡ some r.body) f.0 f.1)
follows_begins s from closed None e f = no-brace closed e f

-- the brace that opens its body
abbrev pub body_of : Option Signature → Option ℕ
body_of (Some r) = Some r.body
body_of None = None

-- where the list has an end, it is the body that is missing
no-body-behind : (s : List ℕ) (from closed : ℕ) → sought_from s from 0 ≡ some closed → NoBody s from → body_behind s closed ≡ none
no-body-behind s from closed e (no_end n) = let z : ◌≡◌ {A = ℕ} 0 1 = cc in absurd (omega arith)
no-body-behind s from closed e (no-brace c p n) = subst (λ k. body_behind s k ≡ none) (some_same c closed (sym p ∙ e)) n

-- so what is kept of the search for the body behind the list is what it finds
pub begins_known : (s : List ℕ) (from closed : ℕ) (r : Option Signature) → sought_from s from 0 ≡ some closed → Begins s from r → Known (Some (body_of r)) (body_behind s closed)
begins_known s from closed (Some r) e b = subst (λ k. body_behind s k ≡ some r.body) (some_same r.closed closed (sym b.0 ∙ e)) b.1
begins_known s from closed None e b = no-body-behind s from closed e b
