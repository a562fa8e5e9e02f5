-- A history worked on the gate itself, so that the promises are seen to speak of something: a failing check, a pass in which nesting
-- grew, a refused update, an update, a check on bytes that are no tree. And why the second promise asks for functions that stand alone.
use Rattle.std.specs.Prelude.{ℕ, ◌≡◌, refl, true, List, [], ◌∷◌, replicate}
use Rattle.std.proofs.Common.{subst, sym}
use mathlib.Core.List.Memᴰ
use Rattle.text_rules.specs.Bytes.{◌∈◌, ascii}
use Rattle.gate_rules.specs.Baseline.{entries}
use Rattle.gate_rules.specs.Calls.{Updated, update_call}
use Rattle.gate_rules.specs.Check.{regressions}
use Rattle.gate_rules.proofs.Computes.{everything}
use Rattle.gate_rules.specs.Functions.{Fun, gate_limits, over}
use Rattle.gate_rules.specs.Gate.{gate}
use Rattle.gate_rules.proofs.GateLaws.{never-worse-gate}
use Rattle.gate_rules.specs.History.{Call, IsHistory, check, passing, start, update}
use Rattle.gate_rules.specs.Pack.{packed}
use Rattle.gate_rules.specs.Promises.{Before}
use Rattle.gate_rules.specs.Scan.{functions_of}
use Rattle.gate_rules.specs.Update.{baseline_text}

-- a tree of one file a.rs with a text
abbrev pub one_file : List ℕ → List ℕ
one_file text = packed (record { path = ascii "a.rs"; text = text } ∷ [])

-- g is over-limit by its nesting of 6; its cyclomatic number is 2
abbrev pub first_tree : List ℕ
first_tree = one_file (ascii "fn g(){{{{{{if}}}}}}")

-- cyclomatic 3
abbrev pub worse_tree : List ℕ
worse_tree = one_file (ascii "fn g(){{{{{{if if}}}}}}")

-- cyclomatic 1, and a nesting of 7, which is held against no entry
abbrev pub deeper_tree : List ℕ
deeper_tree = one_file (ascii "fn g(){{{{{{{}}}}}}}")

abbrev pub empty_tree : List ℕ
empty_tree = packed []

-- a buffer that suffices
unfoldable pub ample : List ℕ
ample = replicate 600 7

unfoldable pub begun : Updated
begun = update_call gate gate_limits first_tree ample ample ample

unfoldable pub calls : List Call
calls =
    check worse_tree ample ample ample  -- fails: cyclomatic 3 was 2
    ∷ check deeper_tree ample ample []  -- refused: no output
    ∷ check deeper_tree ample ample ample  -- passes
    ∷ update deeper_tree [] ample ample  -- refused: no work
    ∷ check first_tree ample ample ample  -- passes: the first baseline still stands
    ∷ update deeper_tree ample ample ample  -- the baseline now has cyclomatic 1
    ∷ check first_tree ample ample ample  -- fails: cyclomatic 2 was 1
    ∷ check [] ample ample ample  -- refused: no tree
    ∷ check deeper_tree ample ample ample  -- passes
    ∷ check empty_tree ample ample ample  -- passes, with a stale entry
    ∷ []

pub record Worked : Type 0 where
  pub starts : begun.answer.number ≡ 0
  pub a_history : IsHistory gate gate_limits (start begun) calls
  pub passes : passing gate gate_limits (start begun) calls ≡ deeper_tree ∷ first_tree ∷ deeper_tree ∷ empty_tree ∷ []

pub worked : Worked
unfolding everything begun calls ample
worked =
    record {
      starts = refl;
      a_history = (tt, (tt, (tt, (Memᴰ.head refl, (tt, (Memᴰ.tail (Memᴰ.head refl), (tt, (tt, (tt, (tt, tt))))))))));
      passes = refl;
    }

-- g of the deeper tree
abbrev pub deeper : Fun
deeper = record { path = ascii "a.rs"; name = ascii "g"; line = 1; lines = 1; cyclomatic = 1; nesting = 7; params = 0 }

deeper-functions : functions_of gate deeper_tree ≡ deeper ∷ []
unfolding everything
deeper-functions = refl

deeper-over : over gate_limits deeper ≡ true
unfolding everything
deeper-over = refl

-- in the tree that passed last but one, it goes back to g of the first tree
pub goes_back : Before gate gate_limits first_tree (ascii "a.rs") (ascii "g") 1 1
unfolding begun
goes_back =
    never-worse-gate gate_limits first_tree ample ample ample worked.starts calls worked.a_history deeper_tree
    (subst (λ trees. deeper_tree ∈ trees) (sym worked.passes) (Memᴰ.tail (Memᴰ.tail (Memᴰ.head refl))))
    deeper (subst (λ fs. deeper ∈ fs) (sym deeper-functions) (Memᴰ.head refl)) deeper-over

-- of two over-limit functions of one key the last row wins, and the first regresses against it; and a function that is not over-limit
-- regresses against the row of one that is
abbrev pub twin : (cyclomatic nesting : ℕ) → Fun
twin c d = record { path = ascii "a"; name = ascii "f"; line = 1; lines = 1; cyclomatic = c; nesting = d; params = 0 }

pub twins : regressions gate_limits (entries (baseline_text gate_limits (twin 20 1 ∷ twin 16 1 ∷ []))) (twin 20 1 ∷ twin 16 1 ∷ []) ≡ ascii "a:1 f cyclomatic 20 was 16" ∷ []
unfolding everything
twins = refl

pub shadowed : regressions gate_limits (entries (baseline_text gate_limits (twin 1 6 ∷ twin 2 1 ∷ []))) (twin 1 6 ∷ twin 2 1 ∷ []) ≡ ascii "a:1 f cyclomatic 2 was 1" ∷ []
unfolding everything
shadowed = refl
