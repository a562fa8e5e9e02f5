-- Each place is where the definition's next field ends, so a line with fewer has no entry.
use Rattle.std.proofs.Common.{◌≡◌, ◌+◌, drop, sym, ◌∙◌, arith}
use Rattle.text_rules.proofs.LineForms.{piece-mark}
use Rattle.text_rules.specs.Search.{bytes_before}
use Rattle.baseline.specs.Fields.{no_entry_reads, four-fields, no-entry, one_field, three-fields, two_fields}
use Rattle.baseline.proofs.entry_with.Goals as goal

pub returns-then-byte-eq-HASH : goal.returns-then-byte-eq-HASH
returns-then-byte-eq-HASH c = (tt, sym (no-entry c.args.line.now (sym c.byte.ensures ∙ c.if-byte-eq-HASH.true)), tt)

pub returns-in_err-b : goal.returns-in_err-b
returns-in_err-b c =
    let line = c.args.line.now in
    let a = c.args.a in
    let ea : a ≡ 0 + bytes_before 9 (drop 0 line) = omega (arith, c.requires.0) in
    no_entry_reads line _ a (one_field line (λ e. c.if-byte-eq-HASH.false (c.byte.ensures ∙ e)) a ea (omega (arith, c.in_err-b.ensures))) c.from_residual.ensures

pub returns-in_err-c : goal.returns-in_err-c
returns-in_err-c c =
    let line = c.args.line.now in
    let a = c.args.a in
    let b = c.in_ok-b.ensures in
    let ea : a ≡ 0 + bytes_before 9 (drop 0 line) = omega (arith, c.requires.0) in
    no_entry_reads line _ a (two_fields line (λ e. c.if-byte-eq-HASH.false (c.byte.ensures ∙ e)) a ea (omega (arith, b)) _ b.0 (omega (arith, c.in_err-c.ensures))) c.from_residual-in_err-c.ensures

pub returns-in_err-d : goal.returns-in_err-d
returns-in_err-d c =
    let line = c.args.line.now in
    let a = c.args.a in
    let b = c.in_ok-b.ensures in
    let d = c.in_ok-c.ensures in
    let ea : a ≡ 0 + bytes_before 9 (drop 0 line) = omega (arith, c.requires.0) in
    no_entry_reads line _ a (three-fields line (λ e. c.if-byte-eq-HASH.false (c.byte.ensures ∙ e)) a ea (omega (arith, b)) _ b.0 (omega (arith, d)) _ d.0 (omega (arith, c.in_err-d.ensures))) c.from_residual-in_err-d.ensures

pub measured-requires : goal.measured-requires
measured-requires c =
    let line = c.args.line.now in
    let a = c.args.a in
    let b = c.in_ok-b.ensures in
    let d = c.in_ok-c.ensures in
    let e = c.in_ok-d.ensures in
    let ea : a ≡ 0 + bytes_before 9 (drop 0 line) = omega (arith, c.requires.0) in
    (omega (arith, b), omega (arith, d), omega (arith, e), omega (arith, e), piece-mark 9 line 0 a ea (omega (arith, b)))

pub returns : goal.returns
returns c =
    let line = c.args.line.now in
    let a = c.args.a in
    let b = c.in_ok-b.ensures in
    let d = c.in_ok-c.ensures in
    let e = c.in_ok-d.ensures in
    let ea : a ≡ 0 + bytes_before 9 (drop 0 line) = omega (arith, c.requires.0) in
    let f = four-fields line (λ e. c.if-byte-eq-HASH.false (c.byte.ensures ∙ e)) a ea (omega (arith, b)) _ b.0 (omega (arith, d)) _ d.0 (omega (arith, e)) _ e.0 in
    (c.measured.ensures.0, c.measured.ensures.1 ∙ sym f, c.measured.ensures.2)
