-- `sums::Totals::fill` meets its contract: the entries of all files are the sums of the rules.
use mathlib.Core.Path.{ap, ◌∙◌}
use native.Mathlib.Omega.{arith}
use Rattle.gate_rules.proofs.TreeLaws.{laid_out}
use Rattle.text_rules.specs.Bytes.{overwritten}
use Rattle.sums.specs.Known.{known-few, known-laid}
use Rattle.sums.specs.Sums.{first_entries}
use Rattle.sums.specs.Table.{entries-are}
use Rattle.sums.proofs.Totals.fill.Goals as goal

pub file_count-requires : goal.file_count-requires
file_count-requires c =
    let s = c.args.self.now in
    let l = laid_out s.tree.now (known-laid s.tree.now s.of s.known) in
    omega arith

pub fill-requires : goal.fill-requires
fill-requires c =
    let s = c.args.self.now in
    (omega (arith, c.requires, c.file_count.ensures.0), omega (arith, c.file_count.ensures.0, known-few s.tree.now s.of s.known))

pub returns : goal.returns
returns c =
    let s = c.args.self.now in
    c.fill.ensures
    ∙ ap (λ k. overwritten (first_entries s.of k) c.args.t.now) c.file_count.ensures.0
    ∙ ap (λ es. overwritten es c.args.t.now) (entries-are s.tree.now s.of s.known.sums (known-few s.tree.now s.of s.known))
