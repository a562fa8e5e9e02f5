-- What a writer does: it puts its bytes from its place on, and stands behind them. To write one text and then another is to write both.
use Rattle.std.specs.Prelude.{ℕ, ◌+◌, ◌≤◌, ◌≡◌, refl, List, ◌++◌, [], length}
use Rattle.std.proofs.Common.{ap, subst, sym, ◌∙◌, append_assoc, append-nil, arith, length-append}
use Rattle.text_rules.specs.Bytes.{put_at}
use Rattle.text_rules.proofs.WriterLaws.{put_then, put-none}
use Rattle.listing.specs.declared.Writer.{Writer}

-- the bytes fit
abbrev pub Room : List ℕ → Writer → Type 0
Room bytes w = w.at + length bytes ≤ length w.out.now

-- the bytes stand in the output and no other byte is changed
pub record Writes (bytes : List ℕ) (old new : Writer) : Type 0 where
  pub same : new.out.ghost_name ≡ old.out.ghost_name
  pub fits : old.at + length bytes ≤ length old.out.now
  pub place : new.at ≡ old.at + length bytes
  pub size : length new.out.now ≡ length old.out.now
  pub put : new.out.now ≡ put_at old.at bytes old.out.now

-- the one and then the other
pub writes_then : {a b : List ℕ} {old mid new : Writer} → Writes a old mid → Writes b mid new → Writes (a ++ b) old new
writes_then {a} {b} {old} {mid} {new} f s =
    let both = length-append a b in
    let room : old.at + length (a ++ b) ≤ length old.out.now = omega (arith, f.place, f.size, s.fits) in
    record {
      same = s.same ∙ f.same;
      fits = room;
      place = omega (arith, f.place, s.place, both);
      size = s.size ∙ f.size;
      put = put_then old.at mid.at a b old.out.now mid.out.now new.out.now room f.place f.put s.put;
    }

-- nothing more is written
pub writes_last : {a : List ℕ} {old new : Writer} → Writes a old new → Writes (a ++ []) old new
writes_last {a} {old} {new} f = subst (λ l. Writes l old new) (sym (append-nil a)) f

-- What a loop of writers has done: `rest` is still to be written behind it, and then the whole is.
pub record Remains (rest whole : List ℕ) (old now : Writer) : Type 0 where
  pub done : List ℕ
  pub written : Writes done old now
  pub all : done ++ rest ≡ whole
  pub room : old.at + length whole ≤ length old.out.now

pub remains_all : {whole : List ℕ} {w : Writer} → Room whole w → Remains whole whole w w
remains_all {whole} {w} h =
    record {
      done = [];
      written = record { same = refl; fits = omega arith; place = omega arith; size = refl; put = sym (put-none w.at w.out.now) };
      all = refl;
      room = h;
    }

-- the next text fits
pub remains_room : {rest whole : List ℕ} {old now : Writer} (text more : List ℕ) → Remains rest whole old now → rest ≡ text ++ more → Room text now
remains_room {rest} {whole} {old} {now} text more r e =
    let w = r.written in
    omega (arith, w.place, w.size, r.room, ap length r.all, length-append r.done rest, ap length e, length-append text more)

-- and is written
pub remains_next : {rest text whole : List ℕ} {old now new : Writer} (more : List ℕ) → Remains rest whole old now → rest ≡ text ++ more → Writes text now new → Remains more whole old new
remains_next {rest} {text} {whole} {old} {now} {new} more r e f =
    record {
      done = r.done ++ text;
      written = writes_then r.written f;
      all = append_assoc r.done text more ∙ ap (λ l. r.done ++ l) (sym e) ∙ r.all;
      room = r.room;
    }

-- nothing is left
pub remains_none : {rest whole : List ℕ} {old now : Writer} → Remains rest whole old now → rest ≡ [] → Writes whole old now
remains_none {rest} {whole} {old} {now} r e =
    subst (λ l. Writes l old now) (sym (append-nil r.done) ∙ ap (λ l. r.done ++ l) (sym e) ∙ r.all) r.written
