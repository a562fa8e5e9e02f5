-- `lookup::begins_with` meets its contract: a line that is too short, or that begins with other bytes, has no entry with the key.
use Prim.Native.Nat.{◌+◌}
use mathlib.Core.Path.{◌≡◌, ap, sym, ◌∙◌}
use mathlib.Core.List.{◌∷◌}
use native.Mathlib.Omega.{arith}
use lib.ListN.{length, length-append, take}
use lib.Seq.{length-take-le}
use Rattle.text_rules.specs.Bytes.{same}
use Rattle.baseline.specs.Reads.{key_bytes}
use Rattle.lookup.proofs.Begins.{other-front, short}
use Rattle.lookup.proofs.begins_with.Goals as goal

pub returns-then-line-path : goal.returns-then-line-path
returns-then-line-path c =
    let k = c.args.sought in
    λ e. short (key_bytes k) c.args.line.now (omega (arith, length-append k.path.now (9 ∷ k.name.now)))

pub returns-then-line-path-2 : goal.returns-then-line-path-2
returns-then-line-path-2 c =
    let k = c.args.sought in
    λ e. short (key_bytes k) c.args.line.now (omega (arith, length-append k.path.now (9 ∷ k.name.now)))

pub slice_bounds-is-end : goal.slice_bounds-is-end
slice_bounds-is-end c = sym (length-take-le _ _ (omega arith))

pub returns : goal.returns
returns c =
    let k = c.args.sought in
    let line = c.args.line.now in
    let size : length (key_bytes k) ≡ length k.path.now + 1 + length k.name.now = omega (arith, length-append k.path.now (9 ∷ k.name.now)) in
    λ e. other-front (key_bytes k) line (ap (λ i. same (take i line) (key_bytes k)) size ∙ sym c.is.ensures ∙ e)
