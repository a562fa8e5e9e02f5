-- A line that begins with the path and the tab of the last key has the path.
use Rattle.key_lines.proofs.LineKeys.{last-path}
use Rattle.key_lines.proofs.path_length.Goals as goal

pub returns-in-Some : goal.returns-in-Some
returns-in-Some c = last-path c.args.last c.args.line.now c.args.common c.requires c.in-Some.l c.in-Some.is c.if-l-common.true
