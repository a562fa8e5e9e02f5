-- An ASCII byte is a whole character, and behind it stand whole blocks of them.
use mathlib.Core.Path.{◌∙◌}
use native.Mathlib.Omega.{arith}
use Rattle.utf8.proofs.Wide.{ascii-step}
use Rattle.utf8.proofs.Place.past_ascii.Goals as goal

pub returns-then-next-self-lt-WIDTH : goal.returns-then-next-self-lt-WIDTH
returns-then-next-self-lt-WIDTH c = (omega arith, omega arith, omega arith, ascii-step c.args.s.now c.args.self.at c.requires.1 c.requires.2)

pub returns : goal.returns
returns c = let b = c.ascii_blocks-end.ensures in
    (omega (arith, b.0), omega arith, b.1, ascii-step c.args.s.now c.args.self.at c.requires.1 c.requires.2 ∙ b.2)
