-- The place of the partner is inside the text.
use Rattle.std.proofs.Common.{◌+◌, ap, sym, arith, length}
use Rattle.text_rules.specs.Classes.{brace_close, brace_open}
use Rattle.source_rules.proofs.PlaceLaws.{partner-place}
use Rattle.source.specs.Bytes.{bytes_of}
use Rattle.source.proofs.text.Text.block_found.Goals as goal

pub overflow_add-to : goal.overflow_add-to
overflow_add-to c =
    let a = c.args in
    let end = c.in_ok-end.end in
    omega (arith, ap length c.bytes-s.ensures, partner-place (bytes_of a.self.now) (a.body + 1) end brace_open brace_close (sym c.in_ok-end.ensures.found))

pub slice_bounds-walk-count : goal.slice_bounds-walk-count
slice_bounds-walk-count c =
    let a = c.args in
    let end = c.in_ok-end.end in
    omega (arith, ap length c.bytes-s.ensures, partner-place (bytes_of a.self.now) (a.body + 1) end brace_open brace_close (sym c.in_ok-end.ensures.found))

pub slice_bounds-walk-start : goal.slice_bounds-walk-start
slice_bounds-walk-start c =
    let a = c.args in
    let end = c.in_ok-end.end in
    omega (arith, ap length c.bytes-s.ensures, partner-place (bytes_of a.self.now) (a.body + 1) end brace_open brace_close (sym c.in_ok-end.ensures.found))

pub slice_bounds-walk-end : goal.slice_bounds-walk-end
slice_bounds-walk-end c =
    let a = c.args in
    let end = c.in_ok-end.end in
    omega (arith, ap length c.bytes-s.ensures, partner-place (bytes_of a.self.now) (a.body + 1) end brace_open brace_close (sym c.in_ok-end.ensures.found))
