-- Bytes put one part after another are put at once, and putting keeps a buffer's length.
use Rattle.std.specs.Prelude.{ℕ, ◌+◌, ◌≤◌, ◌≡◌, List, ◌++◌, length, take, drop}
use Rattle.std.proofs.Common.{ap, ap₂, subst, ◌∙◌, append_assoc, arith, length-append, length-drop, drop-drop, length-take-le}
use Rattle.std.proofs.Math.Seq.{drop-append-add, take-append_seam}
use Rattle.text_rules.specs.Bytes.{put_at}

pub put-length : (at : ℕ) (xs s : List ℕ) → at + length xs ≤ length s → length (put_at at xs s) ≡ length s
put-length at xs s h = simp (length-append, length-drop) (omega (arith, length-take-le at s (omega arith)))

pub put_next : (at : ℕ) (xs ys s : List ℕ) → at + length xs + length ys ≤ length s → put_at (at + length xs) ys (put_at at xs s) ≡ put_at at (xs ++ ys) s
put_next at xs ys s h =
    let front : List ℕ = take at s ++ xs in
    let rest : List ℕ = drop (at + length xs) s in
    let size : length front ≡ at + length xs = length-append (take at s) xs ∙ ap (λ n. n + length xs) (length-take-le at s (omega arith)) in
    let kept : take (at + length xs) (front ++ rest) ≡ front = subst (λ n. take n (front ++ rest) ≡ front) size (take-append_seam front rest) in
    let past : drop (at + length xs + length ys) (front ++ rest) ≡ drop (length ys) rest =
    subst (λ n. drop (n + length ys) (front ++ rest) ≡ drop (length ys) rest) size (drop-append-add front rest (length ys)) in
    let whole : at + length xs + length ys ≡ at + length (xs ++ ys) = simp length-append (omega arith) in
    ap₂ (λ p q. p ++ ys ++ q) kept (past ∙ drop-drop (length ys) (at + length xs) s ∙ ap (λ n. drop n s) whole)
    ∙ ap (λ p. p ++ drop (at + length (xs ++ ys)) s) (append_assoc (take at s) xs ys)
