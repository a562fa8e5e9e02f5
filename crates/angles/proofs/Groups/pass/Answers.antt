-- `angles::Groups::pass` meets its contract: a `<` opens one bracket, a `>` closes one.
use Rattle.std.proofs.Common.{◌+◌, arith}
use Rattle.angles.specs.Angles.{angle_close_lem, angle_open_lem, less, more, turned_as}
use Rattle.angles.specs.Groups.{passes_other}
use Rattle.source_rules.specs.Finding.{angle_after}
use Rattle.angles.proofs.Groups.pass.Goals as goal

pub returns-in-60 : goal.returns-in-60
returns-in-60 c =
    let a = c.args in
    turned_as (more 1) (angle_after a.b) a.next (a.at + 1) (a.at + 1) _ _ c.open.ensures (omega arith) (angle_open_lem a.b c.in-60.is)

pub returns-in-62 : goal.returns-in-62
returns-in-62 c =
    let a = c.args in
    turned_as (less 1) (angle_after a.b) a.next a.at (a.at + 1) _ _ (c.close.ensures a.next a.at c.requires.stands) (omega arith)
    (angle_close_lem a.b (λ z. omega (arith, z, c.in-62.is)) c.in-62.is)

pub returns-in_default : goal.returns-in_default
returns-in_default c =
    let a = c.args in
    passes_other a.b a.next a.at a.self.now c.requires.stands (omega arith) (omega arith)
