-- `lookup::key_before` meets its contract: the path is compared first, then the tab, then the name.
use Prim.Native.Nat.{◌+◌}
use mathlib.Core.Path.{ap, sym, ◌∙◌}
use mathlib.Core.Bool.{not}
use native.Mathlib.Omega.{arith}
use lib.ListN.{length}
use Rattle.text_rules.specs.Bytes.{before}
use Rattle.text_rules.proofs.ScanLaws.{rest_part}
use Rattle.lookup.proofs.KeyOrder.{before-short, front-differs, name-before, tab-differs}
use Rattle.lookup.proofs.key_before.Goals as goal

pub returns-then-key-n : goal.returns-then-key-n
returns-then-key-n c =
    let k = c.args.sought in
    ap not c.before-then-key-n.ensures ∙ sym (before-short c.args.key.now k.path.now k.name.now c.if-key-n.true)

pub returns-then-not-same_bytes : goal.returns-then-not-same_bytes
returns-then-not-same_bytes c =
    let k = c.args.sought in
    c.before-then-not-same_bytes.ensures
    ∙ sym (front-differs c.args.key.now k.path.now k.name.now (omega arith) (sym c.same_bytes.ensures ∙ c.if-not-same_bytes.true))

pub returns-then-key-n-ne-TAB : goal.returns-then-key-n-ne-TAB
returns-then-key-n-ne-TAB c =
    let k = c.args.sought in
    let same = sym c.same_bytes.ensures ∙ c.if-not-same_bytes.false in
    sym (tab-differs c.args.key.now k.path.now k.name.now (omega arith) same c.if-key-n-ne-TAB.true)

pub returns : goal.returns
returns c =
    let key = c.args.key.now in
    let path = c.args.sought.path.now in
    let name = c.args.sought.name.now in
    let same = sym c.same_bytes.ensures ∙ c.if-not-same_bytes.false in
    c.before-2.ensures
    ∙ ap (λ s. before s name) (rest_part key (length path + 1))
    ∙ sym (name-before key path name (omega arith) same c.if-key-n-ne-TAB.false)
