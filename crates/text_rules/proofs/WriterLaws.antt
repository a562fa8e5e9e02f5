-- What a writer that stores byte by byte, or part by part, has put in all. Each law says of a store or a part already written, and of what is still to be put,
-- that they are one put of both.
use Rattle.std.specs.Prelude.{ℕ, suc, ◌+◌, ◌≤◌, ◌<◌, ◌≡◌, List, [], ◌∷◌, ◌++◌, length, take, drop, set}
use Rattle.std.proofs.Common.{ap, ap₂, sym, ◌∙◌, append_assoc, append-nil, arith, add-one, length-append, take-append-drop, drop_at, drop-set-lt, length-take-le, take-suc-set}
use Rattle.std.proofs.Math.Seq.{append_snoc}
use Rattle.std.proofs.lemmas.List.{set_split, take-set-le}
use Rattle.text_rules.specs.Bytes.{joined, put_at, total}
use Rattle.text_rules.proofs.PutLaws.{put-length, put_next}

-- nothing is left to put
pub put-none : (at : ℕ) (s : List ℕ) → put_at at [] s ≡ s
put-none at s =
    let place : at + 0 ≡ at = omega arith in
    ap₂ (λ front n. front ++ drop n s) (append-nil (take at s)) place ∙ take-append-drop at s

-- a byte stored in front of what is still to be put
pub put_first : (at b : ℕ) (xs s : List ℕ) → at < length s → put_at (at + 1) xs (set s at b) ≡ put_at at (b ∷ xs) s
put_first at b xs s h =
    let place : at + 1 + length xs ≡ at + suc (length xs) = omega arith in
    let front : take (at + 1) (set s at b) ≡ take at s ++ b ∷ [] = rw (add-one at) (take-suc-set s at b h) in
    let back : drop (at + 1 + length xs) (set s at b) ≡ drop (at + suc (length xs)) s = drop-set-lt (at + 1 + length xs) s at b (omega arith) ∙ ap (λ n. drop n s) place in
    ap₂ (λ p q. p ++ xs ++ q) front back ∙ ap (λ p. p ++ drop (at + suc (length xs)) s) (append_snoc (take at s) b xs)

-- a byte stored behind what is still to be put
pub put_last : (at b : ℕ) (xs s : List ℕ) → at + length xs < length s → put_at at xs (set s (at + length xs) b) ≡ put_at at (xs ++ b ∷ []) s
put_last at b xs s h =
    let place : ℕ = at + length xs in
    let size : suc (at + length xs) ≡ at + length (xs ++ b ∷ []) = rw (length-append xs (b ∷ [])) (omega arith) in
    let back : drop place (set s place b) ≡ b ∷ drop (suc place) s =
    ap (λ l. drop place l) (set_split s place b h) ∙ drop_at (take place s) (b ∷ drop (suc place) s) place (length-take-le place s (omega arith)) in
    ap₂ (λ p q. p ++ xs ++ q) (take-set-le at s place b (omega arith)) (back ∙ ap (λ n. b ∷ drop n s) size)
    ∙ sym (append_snoc (take at s ++ xs) b (drop (at + length (xs ++ b ∷ [])) s))
    ∙ ap (λ p. p ++ drop (at + length (xs ++ b ∷ [])) s) (append_assoc (take at s) xs (b ∷ []))

-- a part put, and what was put behind it
pub put_then : (at next : ℕ) (xs ys s t u : List ℕ) → at + length (xs ++ ys) ≤ length s → next ≡ at + length xs → t ≡ put_at at xs s → u ≡ put_at next ys t → u ≡ put_at at (xs ++ ys) s
put_then at next xs ys s t u h place e f =
    let room : at + length xs + length ys ≤ length s = omega (arith, length-append xs ys) in
    f ∙ ap₂ (λ n l. put_at n ys l) place e ∙ put_next at xs ys s room

-- texts one after another have the length of all
pub joined_length : (ts : List (List ℕ)) → length (joined ts) ≡ total length ts
joined_length [] = omega arith
joined_length (t ∷ ts) = length-append t (joined ts) ∙ ap (λ n. length t + n) (joined_length ts)

-- Parts put one behind the other, from `at` to `next`: where they fit, they are put at once. Built from what the writer of each part ensures,
-- `puts_then first (puts_then second puts_none)`, and read by `puts-all`.
pub record Puts (at : ℕ) (s : List ℕ) (parts : List (List ℕ)) (next : ℕ) (t : List ℕ) : Type 0 where
  pub whole : at + length (joined parts) ≤ length s → (next ≡ at + length (joined parts)) × (t ≡ put_at at (joined parts) s)

pub puts_none : {at : ℕ} {s : List ℕ} → Puts at s [] at s
puts_none {at} {s} = record { whole = λ h. (omega arith, sym (put-none at s)) }

pub puts_then : {at place next : ℕ} {xs s t u : List ℕ} {parts : List (List ℕ)} → (place ≡ at + length xs) × (t ≡ put_at at xs s) → Puts place t parts next u → Puts at s (xs ∷ parts) next u
puts_then {at} {place} {next} {xs} {s} {t} {u} {parts} e more =
    record {
      whole = λ h.
          let size : length (xs ++ joined parts) ≡ length xs + length (joined parts) = length-append xs (joined parts) in
          let kept : length t ≡ length s = ap length e.1 ∙ put-length at xs s (omega arith) in
          let rest = more.whole (omega (arith, e.0)) in
          (omega (arith, e.0, rest.0), put_then at place xs (joined parts) s t u h e.0 e.1 rest.1);
    }

-- the same where a writer tells its part's length in another form
pub puts-sized : {at n place next : ℕ} {xs s t u : List ℕ} {parts : List (List ℕ)} → length xs ≡ n → (place ≡ at + n) × (t ≡ put_at at xs s) → Puts place t parts next u
    → Puts at s (xs ∷ parts) next u
puts-sized {at} size e more = puts_then (e.0 ∙ ap (λ k. at + k) (sym size), e.1) more

-- all the parts, with their length in the form that the writer of them tells
pub puts-all : {at n next : ℕ} {s t : List ℕ} {parts : List (List ℕ)} → Puts at s parts next t → length (joined parts) ≡ n → at + n ≤ length s
    → (next ≡ at + n) × (t ≡ put_at at (joined parts) s)
puts-all {at} {n} {next} {s} {t} {parts} p size h = let all = p.whole (omega (arith, size)) in (all.0 ∙ ap (λ k. at + k) size, all.1)
