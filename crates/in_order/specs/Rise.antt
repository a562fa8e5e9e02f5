-- Whether the keys rise, line by line.
use Rattle.std.specs.Prelude.{ℕ, ◌+◌, ◌≤◌, ◌≡◌, refl, false, List, [], ◌∷◌, ◌++◌, length, drop}
use Rattle.std.proofs.Common.{sym, subst, append-nil}
use Rattle.std.proofs.Math.Option.{Option, none, some}
use Rattle.text_rules.specs.Search.{bytes_before}
use Rattle.gate_rules.specs.Baseline.{entry_of}
use Rattle.order.specs.Best.{last_of}
use Rattle.baseline.specs.Ordered.{Unfalling, cut-end, cut-next, fallen, keys-line, keys_in, unfalling_more}
use Rattle.baseline.specs.Reads.{key_of_entry, line_at}
use Rattle.in_order.specs.InOrder.{last_after}

last-is : (ks : List (List ℕ)) (k : List ℕ) → last_of (ks ++ k ∷ []) ≡ some k
last-is [] k = refl
last-is (x ∷ []) k = refl
last-is (x ∷ y ∷ ks) k = last-is (y ∷ ks) k

none_last : (ks : List (List ℕ)) → none ≡ last_of ks → ks ≡ []
none_last [] e = refl
none_last (k ∷ []) e = cc
none_last (k ∷ j ∷ ks) e = let z = none_last (j ∷ ks) e in cc

rise-more : (ks : List (List ℕ)) (l : Option (List ℕ)) (k : List ℕ) → Unfalling ks → l ≡ last_of ks → fallen l (some k) ≡ false → Unfalling (ks ++ k ∷ [])
rise-more ks none k u e h = subst (λ js. Unfalling (js ++ k ∷ [])) (sym (none_last ks e)) (tt, tt)
rise-more ks (some l) k u e h = unfalling_more ks l k u (sym e) h

module _ (s : List ℕ) where
  -- the keys of the lines up to a place never fall, and this is the last of them
  pub record Risen (last : Option (List ℕ)) (from : ℕ) : Type 0 where
    pub seen : List (List ℕ)
    pub cut : keys_in s ≡ seen ++ keys_in (drop from s)
    pub rise : Unfalling seen
    pub last-seen : last ≡ last_of seen

  pub risen_start : Risen none 0
  risen_start = record { seen = []; cut = refl; rise = tt; last-seen = refl }

  pub risen_next : (last here : Option (List ℕ)) (from end : ℕ) → Risen last from → end ≡ from + bytes_before 10 (drop from s)
      → here ≡ key_of_entry (entry_of (line_at s from end)) → fallen last here ≡ false → Risen (last_after last here) (end + 1)
  risen_next last (some k) from end u e q h =
      record {
        seen = u.seen ++ k ∷ [];
        cut = cut-next s from end u.seen (some k) u.cut (keys-line s from end (some k) e q);
        rise = rise-more u.seen last k u.rise u.last-seen h;
        last-seen = sym (last-is u.seen k);
      }
  risen_next last none from end u e q h =
      record {
        seen = u.seen ++ [];
        cut = cut-next s from end u.seen none u.cut (keys-line s from end none e q);
        rise = subst Unfalling (sym (append-nil u.seen)) u.rise;
        last-seen = subst (λ ks. last ≡ last_of ks) (sym (append-nil u.seen)) u.last-seen;
      }

  pub risen_end : (last : Option (List ℕ)) (from : ℕ) → length s ≤ from → Risen last from → Unfalling (keys_in s)
  risen_end last from h u = subst Unfalling (cut-end s from u.seen h u.cut) u.rise
