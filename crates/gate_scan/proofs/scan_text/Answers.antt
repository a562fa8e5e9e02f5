-- The records that are left, put into what the buffer has become, are all of them put into what it was.
use Rattle.std.proofs.Common.{◌+◌, ◌≡◌, [], length, ap, subst, sym, ◌∙◌, arith}
use Rattle.gate_rules.specs.RecordForms.{put_record, put_records}
use Rattle.gate_rules.proofs.RecordLaws.{put_record_length}
use Rattle.gate_rules.specs.Records.{record_bytes}
use Rattle.source_rules.proofs.TextScanLaws.{count_fits}
use Rattle.source.specs.Cursors.{Ended, Gives, Yields, remaining}
use Rattle.source.specs.View.{state_of}
use Rattle.gate_scan.specs.Told.{count_next, records-end, records-next, records_for, told, told-wide}
use Rattle.gate_scan.proofs.scan_text.Goals as goal

pub loop-f-preserved : goal.loop-f-preserved
loop-f-preserved c =
    let s = c.args.s.now in
    let l = c.loop-f in
    let f = c.in-Some.f in
    let b = state_of l.f-iterator.now in
    let d = state_of c.next.new.self.now in
    let y : Gives s b f d = (subst (λ t. Yields t b f d) l.invariant.text c.in-Some.ensures.steps).gives in
    let number = c.args.number in
    let place = c.args.place in
    let e = c.put_numbered.ensures ∙ ap (λ r. put_record l.n (record_bytes r) l.lent) c.record_of.ensures in
    record {
      can = tt;
      finite = tt;
      text = y.text;
      long = ap length e ∙ put_record_length l.n (record_bytes (told number place f)) l.lent (told-wide number place f) ∙ l.invariant.long;
      counted = omega (arith, l.invariant.counted, count_next s b f d y number place);
      put = ap (put_records (l.n + 1) (records_for number place (remaining s d))) e ∙ sym (records-next s b f d y number place l.n l.lent) ∙ l.invariant.put;
    }

pub overflow_add-n : goal.overflow_add-n
overflow_add-n c =
    let s = c.args.s.now in
    omega (arith, c.loop-f.invariant.counted, count_fits s, c.requires.2)

pub returns : goal.returns
returns c =
    let s = c.args.s.now in
    let l = c.loop-f in
    let b = state_of l.f-iterator.now in
    let none : remaining s b ≡ [] = (subst (λ t. Ended t b (state_of c.next.new.self.now)) l.invariant.text c.in-None.ensures.steps).all_found in
    let zero : length (remaining s b) ≡ 0 = ap length none in (
      omega (arith, l.invariant.counted),
      sym (records-end s b none c.args.number c.args.place l.n l.lent) ∙ l.invariant.put,
    )
