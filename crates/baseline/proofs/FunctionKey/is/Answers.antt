-- `FunctionKey::is` meets its contract: a key has the path, then a tab, then the name, at the places that the path's length gives.
use Prim.Native.Nat.{◌+◌}
use mathlib.Core.Path.{ap, sym, ◌∙◌}
use native.Mathlib.Omega.{arith}
use lib.ListN.{length}
use lib.Seq.{length-take-le}
use Rattle.text_rules.specs.Bytes.{same}
use Rattle.text_rules.proofs.ScanLaws.{rest_part}
use Rattle.baseline.proofs.Keys.{key-other, key-path, key-short, key-tab}
use Rattle.baseline.proofs.FunctionKey.is.Goals as goal

pub returns-then-key-n : goal.returns-then-key-n
returns-then-key-n c = let k = c.args.self in sym (key-short c.args.key.now k.path.now k.name.now c.if-key-n.true)

pub returns-then-key-n-ne-TAB : goal.returns-then-key-n-ne-TAB
returns-then-key-n-ne-TAB c =
    let k = c.args.self in
    sym (key-tab c.args.key.now k.path.now k.name.now (omega arith) c.if-key-n-ne-TAB.true)

pub returns-then-not-same_bytes : goal.returns-then-not-same_bytes
returns-then-not-same_bytes c =
    let key = c.args.key.now in
    let path = c.args.self.path.now in
    let name = c.args.self.name.now in
    let told = sym (c.same_bytes.ensures ∙ ap (λ s. same s name) (rest_part key (length path + 1))) in
    sym (key-other key path name (omega arith) (told ∙ c.if-not-same_bytes.true))

pub slice_bounds-same_bytes-end-2 : goal.slice_bounds-same_bytes-end-2
slice_bounds-same_bytes-end-2 c = sym (length-take-le _ _ (omega arith))

pub returns : goal.returns
returns c =
    let key = c.args.key.now in
    let path = c.args.self.path.now in
    let name = c.args.self.name.now in
    let told = sym (c.same_bytes.ensures ∙ ap (λ s. same s name) (rest_part key (length path + 1))) in
    c.same_bytes-2.ensures ∙ sym (key-path key path name (omega arith) c.if-key-n-ne-TAB.false (told ∙ c.if-not-same_bytes.false))
