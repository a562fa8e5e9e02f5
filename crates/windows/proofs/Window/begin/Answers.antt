-- `windows::Window::begin` meets its contract: nothing is noted of any place.
use Rattle.windows.proofs.Begun.{begun_nothing}
use Rattle.windows.proofs.Window.begin.Goals as goal

pub returns-clause-nothing : goal.returns-clause-nothing
returns-clause-nothing c at = begun_nothing 2048 c.args.from 0 at
