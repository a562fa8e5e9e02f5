-- What a cursor stands for.
use Rattle.source.specs.Bytes.{bytes_of}
use Rattle.source.specs.Cursors.{state}
use Rattle.source.specs.State.{State}
use Rattle.source.specs.declared.Cursor.{Cursor}

abbrev pub state_of : Cursor → State
state_of c = state (bytes_of c.text) c.at c.line c.span_end c.resume c.spanless c.barren_from c.barren_to
