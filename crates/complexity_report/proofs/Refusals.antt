-- A tree that is too long is told by a law, whatever the test is named.
use Rattle.complexity_report.specs.Printed.{long-printed}

pub ruleset refusals = (long-printed)
