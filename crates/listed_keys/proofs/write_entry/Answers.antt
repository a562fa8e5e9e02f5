-- A line that starts with # has no key, and the key of any other goes up to its second tab.
use Rattle.std.proofs.Common.{ℕ, ◌≡◌, [], ◌∷◌, refl, ap, subst, sym, ◌∙◌, length, arith}
use Rattle.text_rules.specs.Search.{part}
use Rattle.baseline.specs.Ordered.{one_key}
use Rattle.listing.specs.Writes.{Writes, remains_all, remains_none}
use Rattle.listed_keys.specs.KeyLines.{key_lines, none_lines}
use Rattle.listed_keys.specs.Plain.{keys_at, line_end}
use Rattle.listed_keys.specs.Wholes.{note_key, plain-key, rest-ends, second-tab}
use Rattle.listed_keys.proofs.write_entry.Goals as goal

pub returns-then-lines-from-eq-HASH-clause-written : goal.returns-then-lines-from-eq-HASH-clause-written
returns-then-lines-from-eq-HASH-clause-written c =
    let a = c.args in
    let lines = a.lines.now in
    let none : keys_at lines a.from ≡ [] = ap one_key (note_key lines a.from (line_end lines a.from) c.requires.inside c.if-lines-from-eq-HASH.true refl) in
    remains_none (remains_all c.requires.room) (none_lines (keys_at lines a.from) none)

pub write_plain-requires-clause-inside : goal.write_plain-requires-clause-inside
write_plain-requires-clause-inside c =
    let lines = c.args.lines.now in
    let from = c.args.from in
    let q = c.requires.plain c.if-lines-from-eq-HASH.false in
    let ends = ap (line_end lines) (sym (second-tab lines from _ _ _ q)) ∙ rest-ends lines from _ _ _ q in
    omega (arith, ends, q.inside)

pub write_plain-requires-clause-room : goal.write_plain-requires-clause-room
write_plain-requires-clause-room c =
    let lines = c.args.lines.now in
    let from = c.args.from in
    let q = c.requires.plain c.if-lines-from-eq-HASH.false in
    let key = plain-key lines from _ _ _ q ∙ ap (λ (j : ℕ). part from j lines ∷ []) (second-tab lines from _ _ _ q) in
    omega (arith, c.requires.room, ap (λ ks. length (key_lines ks)) key)

pub returns-clause-end : goal.returns-clause-end
returns-clause-end c =
    let lines = c.args.lines.now in
    let from = c.args.from in
    let q = c.requires.plain c.if-lines-from-eq-HASH.false in
    let ends = ap (line_end lines) (sym (second-tab lines from _ _ _ q)) ∙ rest-ends lines from _ _ _ q in
    c.write_plain.ensures.end ∙ ends ∙ q.ends

pub returns-clause-high : goal.returns-clause-high
returns-clause-high c =
    let lines = c.args.lines.now in
    let from = c.args.from in
    let q = c.requires.plain c.if-lines-from-eq-HASH.false in
    let ends = ap (line_end lines) (sym (second-tab lines from _ _ _ q)) ∙ rest-ends lines from _ _ _ q in
    omega (arith, c.write_plain.ensures.end, ends, q.inside)

pub returns-clause-written : goal.returns-clause-written
returns-clause-written c =
    let lines = c.args.lines.now in
    let from = c.args.from in
    let q = c.requires.plain c.if-lines-from-eq-HASH.false in
    let key = plain-key lines from _ _ _ q ∙ ap (λ (j : ℕ). part from j lines ∷ []) (second-tab lines from _ _ _ q) in
    subst (λ ks. Writes (key_lines ks) c.args.w.now c.write_plain.new.w) (sym key) c.write_plain.ensures.written
