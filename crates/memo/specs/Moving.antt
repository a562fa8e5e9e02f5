-- The searches that are kept come to another place, one by one.
use Rattle.std.specs.Prelude.{ℕ, ◌+◌, ◌≤◌, ◌<◌, ◌≡◌, ◌≢◌, List, Option as Possible, Some, length, set}
use Rattle.std.specs.List.{All, AllWithin}
use Rattle.std.proofs.Common.{subst, sym, arith, length-set, get_or-set_other}
use Rattle.std.proofs.lemmas.List.Elements.{AllWithin-more_set, AllWithin-none}
use Rattle.flat.specs.Body.{Counted, body_from}
use Rattle.flat.specs.declared.Counts.{Counts}
use Rattle.memo.specs.Memo.{Entry, Holds, Known}
use Rattle.memo.specs.declared.Search.{Search}

-- a search that goes on has other counts, and finds the same
pub goes_on : (s : List ℕ) (from to : ℕ) (x : Search) (n : Counts) → Holds s from x → body_from s from x.counts ≡ body_from s to n → Counted n to
    → Holds s to (record { counts = n; found = x.found })
goes_on s from to x n h same c = record { counted = c; finds = subst (Known (Some x.found)) same h.finds }

-- the searches before an index have come to the place, the others not yet
pub record Between (s : List ℕ) (from to i : ℕ) (xs : List (Possible Search)) : Type 0 where
  pub there : AllWithin (Entry s to) xs 0 i
  pub here : AllWithin (Entry s from) xs i (length xs)

pub none_yet : (s : List ℕ) (from to : ℕ) (xs : List (Possible Search)) → All (Entry s from) xs → Between s from to 0 xs
none_yet s from to xs h = record { there = AllWithin-none (Entry s to) xs 0; here = λ k d a b. h k d b }

pub one_more : (s : List ℕ) (from to i : ℕ) (xs : List (Possible Search)) (y : Possible Search) → i < length xs → Entry s to y → Between s from to i xs
    → Between s from to (i + 1) (set xs i y)
one_more s from to i xs y l e b =
    record {
      there = AllWithin-more_set xs i y l (Entry s to) b.there e;
      here = λ k d h m.
          let other : k ≢ i = λ z. omega (arith, z, h) in
          subst (Entry s from) (sym (get_or-set_other xs i k y d other)) (b.here k d (omega (arith, h)) (omega (arith, m, length-set xs i y)));
    }

pub all_there : (s : List ℕ) (from to i : ℕ) (xs : List (Possible Search)) → length xs ≤ i → Between s from to i xs → All (Entry s to) xs
all_there s from to i xs l b k d m = b.there k d (omega arith) (omega (arith, l, m))
