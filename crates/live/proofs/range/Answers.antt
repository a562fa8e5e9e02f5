-- `live::range` meets its contract: the functions outside have paths that stand before or behind that of the key.
use Rattle.std.proofs.Common.{◌≡◌, ℕ, ◌+◌, ◌<◌, true, ap, sym, ◌∙◌, take, get_or, rules, arith}
use Rattle.text_rules.specs.Classes.{tab}
use Rattle.text_rules.specs.Search.{bytes_before}
use Rattle.gate_rules.specs.Gate.{gate}
use Rattle.gate_rules.specs.Scan.{functions_of}
use Rattle.gate_rules.specs.Tree.{path_before}
use Rattle.functions.specs.Shown.{no_fun}
use Rattle.live.specs.Ranges.{only_ends}
use Rattle.live.proofs.range.Goals as goal

pub returns-clause-others : goal.returns-clause-others
returns-clause-others c k e =
    let fs = c.args.fs in
    let tree = fs.tree.now in
    let p = take c.field_end.result c.args.bytes.now in
    let end : c.field_end.result ≡ bytes_before tab c.args.bytes.now = omega (arith, c.field_end.ensures.0) in
    let before : (m : ℕ) → m + 1 ≡ c.boundary-from.result → path_before (get_or (functions_of gate tree) m no_fun).path p ≡ true =
    λ m q. let h = c.boundary-from.ensures.before m q in search rules in
    let behind : c.boundary-to.result < fs.count → path_before p (get_or (functions_of gate tree) c.boundary-to.result no_fun).path ≡ true =
    λ q. let h = c.boundary-to.ensures.here q in search rules in
    only_ends tree fs.records.now fs.stand k p (ap (λ n. take n c.args.bytes.now) end ∙ sym e) c.boundary-from.result c.boundary-to.result fs.count fs.all c.boundary-from.ensures.inside before behind
