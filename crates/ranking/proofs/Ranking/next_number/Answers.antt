-- `ranking::Ranking::next_number` meets its contract: the node 1 holds the next function. Its leaf is emptied, and so only the matches above that are due.
use Prim.Native.Nat.{◌+◌, ◌/◌}
use mathlib.Core.Path.{ap, refl, subst, sym, ◌∙◌}
use native.Mathlib.Omega.{arith}
use lib.ListN.{get_or, length, set}
use Rattle.std.specs.Prelude.{Some, None, ◌∷◌}
use Rattle.ranking.specs.Ranks.{PlayedBut}
use Rattle.functions.specs.Shown.{no_fun}
use Rattle.ranking.specs.Ranks.{Next, Standing, Takes, to_take}
use Rattle.ranking.specs.Taking.{all_of, standing}
use Rattle.ranking.proofs.Turns.{none_left, number_next, number_none, path_due, take_next, taking_next}
use Rattle.ranking.proofs.Ranking.next_number.Goals as goal

pub play_path-requires : goal.play_path-requires
play_path-requires g c =
    let r = c.self.inside in
    let t = r.tournament in
    let n = t.functions.count in (
      omega (arith, c.if-n-first.false),
      subst (λ k. PlayedBut g.R.Rank.less g.R.Rank.orders t.functions.tree.now ((n + k) / 2) (set r.nodes (n + k) n)) (sym c.from-first.ensures)
          (path_due g.R.Rank.less g.R.Rank.orders r c.self.invariant (omega (arith, c.from-first.ensures, c.if-n-first.false))),
    )

pub invariant_of-self : goal.invariant_of-self
invariant_of-self g c =
    let r = c.self.inside in
    let n = r.tournament.functions.count in
    taking_next g.R.Rank.less g.R.Rank.orders r c.self.invariant (omega (arith, c.from-first.ensures, c.if-n-first.false)) c.play_path.new.nodes c.play_path.ensures.0
    (λ j h. c.play_path.ensures.1 j h ∙ ap (λ k. get_or (set r.nodes (n + k) n) j 0) c.from-first.ensures)

pub returns-then-n-first-clause-number : goal.returns-then-n-first-clause-number
returns-then-n-first-clause-number g c =
    let less = g.R.Rank.less in
    let orders = g.R.Rank.orders in
    let r = c.self.inside in
    subst (λ (s : Standing). Next less orders s (length s.all) s) c.self.view_is
    (number_none less orders r c.self.invariant (omega (arith, c.from-first.ensures, c.if-n-first.true)))

pub returns-then-n-first-clause-taken : goal.returns-then-n-first-clause-taken
returns-then-n-first-clause-taken g c =
    let less = g.R.Rank.less in
    let orders = g.R.Rank.orders in
    let r = c.self.inside in
    let none = none_left less orders r c.self.invariant (omega (arith, c.from-first.ensures, c.if-n-first.true)) in
    subst (λ (s : Standing). Takes less orders s None s) c.self.view_is (none, none, refl)

pub returns-clause-number : goal.returns-clause-number
returns-clause-number g c =
    let less = g.R.Rank.less in
    let orders = g.R.Rank.orders in
    let r = c.self.inside in
    let new = standing record r { nodes = c.play_path.new.nodes; taken = r.taken + 1 } in
    subst (λ (s : Standing). Next less orders s c.from-first.result new) c.self.view_is
    (subst (λ k. Next less orders (standing r) k new) (sym c.from-first.ensures)
    (number_next less orders r c.self.invariant (omega (arith, c.from-first.ensures, c.if-n-first.false)) c.play_path.new.nodes))

pub returns-clause-taken : goal.returns-clause-taken
returns-clause-taken g c =
    let less = g.R.Rank.less in
    let orders = g.R.Rank.orders in
    let r = c.self.inside in
    let new = standing record r { nodes = c.play_path.new.nodes; taken = r.taken + 1 } in
    let n = r.tournament.functions.all in
    let next = take_next less orders r c.self.invariant (omega (arith, c.from-first.ensures, c.if-n-first.false)) in
    subst (λ (s : Standing). Takes less orders s (Some c.from-first.result) new) c.self.view_is
    (omega (arith, c.if-n-first.false), next ∙ ap (λ k. get_or (all_of r) k no_fun ∷ to_take less orders new) (sym c.from-first.ensures), refl)
