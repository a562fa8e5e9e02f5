-- Numbers put one after another are their bytes put at once.
use Rattle.std.specs.Prelude.{ℕ, ◌+◌, ◌*◌, ◌≤◌, ◌<◌, ◌≡◌, refl, List, [], ◌∷◌, ◌++◌, length, take, get_or}
use Rattle.std.proofs.Common.{ap, sym, ◌∙◌, append_assoc, append-nil, arith, length-take-le, take_all}
use Rattle.std.proofs.lemmas.List.{take_more}
use Rattle.text_rules.specs.Bytes.{put_at}
use Rattle.text_rules.specs.U32.{u32_bytes, u32s_bytes}
use Rattle.text_rules.proofs.PutLaws.{put_next}
use Rattle.text_rules.proofs.WriterLaws.{put-none}

bytes-append : (xs ys : List ℕ) → u32s_bytes (xs ++ ys) ≡ u32s_bytes xs ++ u32s_bytes ys
bytes-append [] ys = refl
bytes-append (x ∷ xs) ys = ap (λ t. u32_bytes x ++ t) (bytes-append xs ys) ∙ sym (append_assoc (u32_bytes x) (u32s_bytes xs) (u32s_bytes ys))

-- four bytes for each
pub bytes-length : (xs : List ℕ) → length (u32s_bytes xs) ≡ 4 * length xs
unfolding u32_bytes
bytes-length [] = refl
bytes-length (x ∷ xs) = omega (arith, bytes-length xs)

four_bytes : (n : ℕ) → length (u32_bytes n) ≡ 4
unfolding u32_bytes
four_bytes n = refl

-- before the first number nothing is put
pub none_put : (at : ℕ) (ns s : List ℕ) → s ≡ put_at at (u32s_bytes (take 0 ns)) s
none_put at ns s = sym (put-none at s)

-- one number more
pub more_put : (at k : ℕ) (ns s t u : List ℕ) → k < length ns → at + 4 * length ns ≤ length s → t ≡ put_at at (u32s_bytes (take k ns)) s → u ≡ put_at (at + 4 * k) (u32_bytes (get_or ns k 0)) t
    → u ≡ put_at at (u32s_bytes (take (k + 1) ns)) s
more_put at k ns s t u h room e f =
    let done = u32s_bytes (take k ns) in
    let v = u32_bytes (get_or ns k 0) in
    let size : length done ≡ 4 * k = bytes-length (take k ns) ∙ ap (λ n. 4 * n) (length-take-le k ns (omega arith)) in
    let whole : u32s_bytes (take (k + 1) ns) ≡ done ++ v =
    ap u32s_bytes (take_more ns k 0 h) ∙ bytes-append (take k ns) (get_or ns k 0 ∷ []) ∙ ap (λ l. done ++ l) (append-nil v) in
    let four : length v ≡ 4 = four_bytes (get_or ns k 0) in
    f ∙ ap (put_at (at + 4 * k) v) e ∙ ap (λ n. put_at (at + n) v (put_at at done s)) (sym size) ∙ put_next at done v s (omega (arith, size, four)) ∙ ap (λ l. put_at at l s) (sym whole)

-- all are put
pub all_put : (at n : ℕ) (ns s t : List ℕ) → length ns ≤ n → t ≡ put_at at (u32s_bytes (take n ns)) s → t ≡ put_at at (u32s_bytes ns) s
all_put at n ns s t h e = e ∙ ap (λ l. put_at at (u32s_bytes l) s) (take_all n ns h)
