-- The functions of a listing, taken one after another: where a ranking stands, and what the tournament holds then.
use Rattle.std.specs.Prelude.{Bool, ℕ, ◌+◌, ◌≤◌, List, length}
use Rattle.text_rules.specs.ByteOrder.{Orders}
use Rattle.gate_rules.specs.Functions.{Fun}
use Rattle.gate_rules.specs.Gate.{gate}
use Rattle.gate_rules.specs.Scan.{functions_of}
use Rattle.functions.specs.Shown.{limits_of}
use Rattle.ranking.specs.Ranks.{LastTaken, Ranked, Settled, Standing, to_take}
use Rattle.ranking.specs.declared.Ranking.TheInside.{Inside}

-- the functions of the tree
abbrev pub all_of : {R : Type 0} → Inside R → List Fun
all_of r = functions_of gate r.tournament.functions.tree.now

abbrev pub standing : {R : Type 0} → Inside R → Standing
standing r = record { all = all_of r; limits = limits_of r.limits; taken = r.taken }

module _ {R : Type 0} (less : Fun → Fun → Bool) (orders : Orders less) where
  -- some functions are taken, `last` as the last one, and the others are in the tournament
  pub record Taking (r : Inside R) : Type 0 where
    pub last : ℕ
    pub taken_last : LastTaken less orders (standing r) last
    pub settled : Settled less orders r.tournament.functions.tree.now r.nodes
    pub ranked : Ranked less orders (limits_of r.limits) r.tournament.functions.tree.now last r.nodes
    pub few : r.taken + length (to_take less orders (standing r)) ≤ length (all_of r)
