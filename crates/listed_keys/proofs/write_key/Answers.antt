-- Each part is written behind the one before.
use Rattle.std.proofs.Common.{arith}
use Rattle.gate_rules.specs.Check.{listed}
use Rattle.listing.specs.Texts.{spaced-length}
use Rattle.listing.specs.Writes.{writes_last, writes_then}
use Rattle.listed_keys.specs.KeyLines.{line-length}
use Rattle.listed_keys.proofs.write_key.Goals as goal

pub text-requires : goal.text-requires
text-requires c = omega (arith, line-length c.args.bytes.now)

pub spaced-requires : goal.spaced-requires
spaced-requires c = omega (arith, line-length c.args.bytes.now, spaced-length c.args.bytes.now)

pub text-requires-2 : goal.text-requires-2
text-requires-2 c = omega (arith, line-length c.args.bytes.now, spaced-length c.args.bytes.now)

pub returns : goal.returns
unfolding listed
returns c = writes_then c.text.ensures (writes_then c.spaced.ensures (writes_last c.text-2.ensures))
