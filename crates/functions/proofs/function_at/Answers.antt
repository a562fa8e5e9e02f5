-- `functions::function_at` meets its contract: the numbers that are read are those of the record with the number, and path and name lie in the tree.
use Rattle.functions.proofs.Read.{in_tree, inside, read-is}
use Rattle.functions.proofs.function_at.Goals as goal

pub get-r-requires : goal.get-r-requires
get-r-requires c = inside c.args.tree.now c.args.records.now c.requires.0 c.args.k c.requires.1

pub places_of-p-requires : goal.places_of-p-requires
places_of-p-requires c = in_tree c.args.tree.now c.args.records.now c.requires.0 c.args.k c.requires.1 c.get-r.result c.get-r.ensures

pub returns : goal.returns
returns c =
    let a = c.args in
    read-is a.tree.now a.records.now c.requires.0 a.k c.requires.1 c.get-r.result c.get-r.ensures c.places_of-p.result c.places_of-p.ensures.1
