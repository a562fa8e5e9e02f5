-- No function has the path of the last key, and the line is read against that key.
use Rattle.in_order.proofs.Following.{follows_read}
use Rattle.in_order.proofs.walk.Walk.following.Goals as goal

pub returns : goal.returns
returns c = follows_read c.args.self.now c.in_ok-key.key c.next_line.result c.in_ok-key.was c.if-self.false c.next_line.ensures
