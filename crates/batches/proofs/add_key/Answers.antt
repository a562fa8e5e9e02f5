-- A key without a place leaves the keys as they were, and one that passes all tests is put in.
use Rattle.std.proofs.Common.{map, sym, ◌∙◌}
use Rattle.gate_rules.specs.Functions.{key}
use Rattle.gate_rules.specs.Gate.{gate}
use Rattle.gate_rules.specs.Scan.{functions_of}
use Rattle.baseline.specs.Reads.{key_text}
use Rattle.batches.specs.Gathered.{fits_both}
use Rattle.batches.proofs.Deciding.{no_place, taken}
use Rattle.batches.proofs.add_key.Goals as goal

pub returns-then-not-has_place-clause-keys : goal.returns-then-not-has_place-clause-keys
returns-then-not-has_place-clause-keys c =
    let a = c.args in
    no_place (map key (functions_of gate a.fs.tree.now)) (key_text a.last) a.key.now a.keys.now.keys (c.has_place.ensures c.if-not-has_place.true)

pub returns-clause-keys : goal.returns-clause-keys
returns-clause-keys c =
    let a = c.args in
    let live = map key (functions_of gate a.fs.tree.now) in
    let last = key_text a.last in
    let fits = fits_both live last a.key.now (sym c.is_behind.ensures ∙ c.if-not-is_behind.false) (sym c.is_live.ensures ∙ c.if-is_live.false) in
    taken live last a.key.now a.keys.now.keys fits c.insert.new.self.keys c.insert.ensures.keys
