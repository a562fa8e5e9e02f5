-- `functions::places_at` meets its contract: the record with the number tells of the function's path and name.
use mathlib.Core.Path.{ap}
use Rattle.functions.proofs.Read.{in_tree, inside, read-is}
use Rattle.functions.proofs.places_at.Goals as goal

pub get-requires : goal.get-requires
get-requires c = inside c.args.tree.now c.args.records.now c.requires.0 c.args.k c.requires.1

pub places_of-requires : goal.places_of-requires
places_of-requires c = in_tree c.args.tree.now c.args.records.now c.requires.0 c.args.k c.requires.1 c.get.result c.get.ensures

pub returns-clause-path : goal.returns-clause-path
returns-clause-path c =
    let a = c.args in
    ap (λ f. f.path) (read-is a.tree.now a.records.now c.requires.0 a.k c.requires.1 c.get.result c.get.ensures c.places_of.result c.places_of.ensures.1)

pub returns-clause-name : goal.returns-clause-name
returns-clause-name c =
    let a = c.args in
    ap (λ f. f.name) (read-is a.tree.now a.records.now c.requires.0 a.k c.requires.1 c.get.result c.get.ensures c.places_of.result c.places_of.ensures.1)
