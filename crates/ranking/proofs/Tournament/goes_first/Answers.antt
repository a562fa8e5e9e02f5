-- `ranking::Tournament::goes_first` meets its contract: the functions that are read are those with the numbers.
use mathlib.Core.Path.{ap, ap₂, sym, ◌∙◌}
use lib.Dec.{ltb}
use Rattle.text_rules.specs.Selection.{ahead}
use Rattle.ranking.specs.Ranks.{decided}
use Rattle.ranking.proofs.Tournament.goes_first.Goals as goal

pub returns : goal.returns
unfolding ahead
returns g c =
    let a = c.args in
    c.first.ensures ∙ ap₂ (λ f h. decided g.R.Rank.less f h (ltb a.j a.k)) c.get-f.ensures c.get-g.ensures

pub first_of_one_path-requires : goal.first_of_one_path-requires
first_of_one_path-requires g c = ap (λ f. f.path) c.get-f.ensures ∙ c.in_one_file.ensures c.if-in_one_file.true ∙ sym (ap (λ f. f.path) c.get-g.ensures)

pub returns-then-in_one_file : goal.returns-then-in_one_file
unfolding ahead
returns-then-in_one_file g c =
    let a = c.args in
    c.first_of_one_path.ensures ∙ ap₂ (λ f h. decided g.R.Rank.less f h (ltb a.j a.k)) c.get-f.ensures c.get-g.ensures
