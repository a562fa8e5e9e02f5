-- `functions::Functions::in_one_file` meets its contract: the paths of both are that of the file which both records tell.
use Rattle.std.proofs.Common.{ap, sym, ◌∙◌, arith}
use borrow.Author.Tests.{eqb-true}
use Rattle.gate_rules.specs.Tree.{path_of}
use Rattle.functions.proofs.Read.{inside, path-here}
use Rattle.functions.proofs.Functions.in_one_file.Goals as goal

pub get-first-requires : goal.get-first-requires
get-first-requires c =
    let s = c.args.self in
    inside s.tree.now s.records.now s.stand c.args.j (omega (arith, s.all, c.requires))

pub get-second-requires : goal.get-second-requires
get-second-requires c =
    let s = c.args.self in
    inside s.tree.now s.records.now s.stand c.args.k (omega (arith, s.all, c.requires))

pub returns : goal.returns
returns c same =
    let s = c.args.self in
    let first = path-here s.tree.now s.records.now s.stand c.args.j (omega (arith, s.all, c.requires)) c.get-first.result c.get-first.ensures in
    let second = path-here s.tree.now s.records.now s.stand c.args.k (omega (arith, s.all, c.requires)) c.get-second.result c.get-second.ensures in
    first ∙ ap (path_of s.tree.now) (eqb-true c.get-first.result.file c.get-second.result.file same) ∙ sym second
