-- The orders of the listings, and the laws of the tournament at the functions of a tree.
use Rattle.std.specs.Prelude.{ℕ, ◌+◌, ◌≤◌, ◌<◌, ◌≡◌, ◌≢◌, Bool, not, ◌&&◌, ◌||◌, Option, Some, None, List, [], ◌∷◌, length, get_or}
use Rattle.text_rules.specs.ByteOrder.{Orders}
use Rattle.text_rules.specs.Selection.{placed_from}
use Rattle.gate_rules.specs.Functions.{Fun, Limits, over}
use Rattle.gate_rules.specs.Gate.{gate}
use Rattle.gate_rules.specs.Scan.{functions_of}
use Rattle.order.specs.Chosen.{Chosen, Taken, goes_first, left}
use Rattle.order.specs.Tournament as laws
use Rattle.functions.specs.Shown.{no_fun}

-- f goes first: it is less, or neither is and it is the earlier one
abbrev pub decided : (Fun → Fun → Bool) → Fun → Fun → Bool → Bool
decided less f g earlier = less f g || (not (less g f) && earlier)

-- the leaves of the functions before m hold those over the limits
abbrev pub Entered : Limits → List ℕ → ℕ → List ℕ → Type 0
Entered L tree m ns = laws.Entered no_fun (functions_of gate tree) (over L) m ns

module _ (less : Fun → Fun → Bool) (orders : Orders less) (tree : List ℕ) where
  -- the function j goes before the function k
  abbrev pub goes_before : ℕ → ℕ → Bool
  goes_before j k = goes_first less orders no_fun (functions_of gate tree) j k

  abbrev pub Wins : (w l r : ℕ) → Type 0
  Wins w l r = laws.Wins less orders no_fun (functions_of gate tree) w l r

  abbrev pub Played : ℕ → (ns new : List ℕ) → Type 0
  Played i ns new = laws.Played less orders no_fun (functions_of gate tree) i ns new

  abbrev pub PlayedBut : ℕ → List ℕ → Type 0
  PlayedBut i ns = laws.PlayedBut less orders no_fun (functions_of gate tree) i ns

  abbrev pub Settled : List ℕ → Type 0
  Settled ns = laws.Settled less orders no_fun (functions_of gate tree) ns

module _ (less : Fun → Fun → Bool) (orders : Orders less) (L : Limits) (tree : List ℕ) where
  -- the functions over the limits that stand behind the last one taken are in the tournament
  abbrev pub Ranked : (last : ℕ) → List ℕ → Type 0
  Ranked last ns = laws.Leaves less orders no_fun (functions_of gate tree) (over L) last ns

-- the functions over the limits, in the order
abbrev pub listed : (less : Fun → Fun → Bool) → Orders less → Limits → List Fun → List Fun
listed less orders L fs = left less orders no_fun fs (over L) 0

-- ---- one function after another

-- where a ranking stands: all functions, the limits, and how many of those over the limits are taken
pub record Standing : Type 0 where
  pub all : List Fun
  pub limits : Limits
  pub taken : ℕ

-- none is taken yet
abbrev pub at_start : Limits → List Fun → Standing
at_start L fs = record { all = fs; limits = L; taken = 0 }

-- the number of a function; where there is none, that of all
abbrev pub number_of : Standing → Option ℕ → ℕ
number_of s (Some k) = k
number_of s None = length s.all

-- where it stands with one more taken
abbrev pub one_more : Standing → Standing
one_more s = record s { taken = s.taken + 1 }

module _ (less : Fun → Fun → Bool) (orders : Orders less) where
  -- those that are still to take, in the order
  abbrev pub to_take : Standing → List Fun
  to_take s = left less orders no_fun s.all (over s.limits) s.taken

  -- the last one that was taken
  abbrev pub LastTaken : Standing → ℕ → Type 0
  LastTaken s last = Taken less orders no_fun s.all (over s.limits) s.taken last

  -- the function r was taken as the next one, or r stands for none
  pub record Next (old : Standing) (r : ℕ) (new : Standing) : Type 0 where
    pub within : r ≤ length old.all
    pub all-is : new.all ≡ old.all
    pub limits-is : new.limits ≡ old.limits
    pub chosen : (last : ℕ) → LastTaken old last → Chosen less orders no_fun old.all (over old.limits) last (placed_from 0 old.all) r
    pub ranked : r ≢ length old.all → LastTaken new r

  -- the function with the number was the first of those still to take, and the others are left; where none was, none is. Of the ranking nothing else
  -- changes but that one more is taken.
  abbrev pub Takes : Standing → Option ℕ → Standing → Type 0
  Takes old (Some k) new = (k < length old.all) × (to_take old ≡ get_or old.all k no_fun ∷ to_take new) × (new ≡ one_more old)
  Takes old None new = (to_take old ≡ []) × (to_take new ≡ []) × (new ≡ old)
