-- `ranking::Tournament::winner` meets its contract: who is alone wins, and of two the one that goes first.
use mathlib.Core.Path.{sym, ◌∙◌}
use native.Mathlib.Omega.{arith}
use Rattle.gate_rules.specs.Gate.{gate}
use Rattle.gate_rules.specs.Scan.{functions_of}
use Rattle.functions.specs.Shown.{no_fun}
use Rattle.order.specs.Tournament.{left-first, no-left, no_right, right_first}
use Rattle.ranking.proofs.Tournament.winner.Goals as goal

pub returns-then-l-n : goal.returns-then-l-n
returns-then-l-n g c =
    let a = c.args in
    let fs = a.self.now.functions in
    (omega arith, no-left g.R.Rank.less g.R.Rank.orders no_fun (functions_of gate fs.tree.now) a.l a.r (c.if-l-n.true ∙ fs.all))

pub returns-then-r-n : goal.returns-then-r-n
returns-then-r-n g c =
    let a = c.args in
    let fs = a.self.now.functions in
    (omega arith, no_right g.R.Rank.less g.R.Rank.orders no_fun (functions_of gate fs.tree.now) a.l a.r (c.if-r-n.true ∙ fs.all))

pub returns-then-goes_first : goal.returns-then-goes_first
returns-then-goes_first g c =
    let a = c.args in
    let fs = a.self.now.functions in (
      omega arith,
      right_first g.R.Rank.less g.R.Rank.orders no_fun (functions_of gate fs.tree.now) a.l a.r (λ e. c.if-r-n.false (e ∙ sym fs.all)) (sym c.goes_first.ensures ∙ c.if-goes_first.true),
    )

pub returns : goal.returns
returns g c =
    let a = c.args in
    let fs = a.self.now.functions in (
      omega arith,
      left-first g.R.Rank.less g.R.Rank.orders no_fun (functions_of gate fs.tree.now) a.l a.r (λ e. c.if-l-n.false (e ∙ sym fs.all)) (sym c.goes_first.ensures ∙ c.if-goes_first.false),
    )
