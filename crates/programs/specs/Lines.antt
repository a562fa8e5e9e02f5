-- A line that is put at the start of an output, and then printed.
use Rattle.std.specs.Prelude.{ℕ, zero, suc, ◌+◌, ◌≤◌, ◌≡◌, refl, List, [], ◌∷◌, ◌++◌, length, take, drop}
use Rattle.std.proofs.Common.{ap, sym, ◌∙◌, arith, take_at, length-take-le}
use Rattle.std.proofs.lemmas.List.{length-replicate}
use Rattle.io.specs.Counts.{IsPrefixLen}
use Rattle.text_rules.specs.Bytes.{joined, put_at}
use Rattle.text_rules.specs.Decimal.{decimal}
use Rattle.text_rules.proofs.PutLaws.{put-length}
use Rattle.text_rules.proofs.WriterLaws.{Puts}
use Rattle.listing.specs.declared.Writer.{Writer}
use Rattle.listing.specs.Writes.{Writes}
use Rattle.gate_rules.specs.Programs.{lent, printed, program_bytes}

-- the first n bytes of an output are a text
abbrev pub Starts : (n : ℕ) (output text : List ℕ) → Type 0
Starts n output text = IsPrefixLen n output × (take n output ≡ text)

-- what a writer wrote from the start on are its first bytes
pub line_written : {text : List ℕ} {old new : Writer} → Writes text old new → old.at ≡ 0 → Starts new.at new.out.now text
line_written {text} {old} {new} w e =
    let all : new.out.now ≡ put_at 0 text old.out.now = w.put ∙ ap (λ n. put_at n text old.out.now) e in
    let size : length text ≡ new.at = omega (arith, w.place) in
    let within : new.at ≤ length new.out.now = omega (arith, w.place, w.size, w.fits) in
    ((within, sym (length-take-le new.at new.out.now within)), ap (take new.at) all ∙ take_at text (drop (0 + length text) old.out.now) new.at size)

-- parts put one behind the other from the start on are its first bytes
pub line-put : {n : ℕ} {s t : List ℕ} {parts : List (List ℕ)} → Puts 0 s parts n t → length (joined parts) ≤ length s → Starts n t (joined parts)
line-put {n} {s} {t} {parts} p h =
    let room : 0 + length (joined parts) ≤ length s = omega arith in
    let all = p.whole room in
    let size : length (joined parts) ≡ n = omega (arith, all.0) in
    let kept : length t ≡ length s = ap length all.1 ∙ put-length 0 (joined parts) s room in
    ((omega (arith, size, kept), sym (length-take-le n t (omega (arith, size, kept)))), ap (take n) all.1 ∙ take_at (joined parts) (drop (0 + length (joined parts)) s) n size)

-- a refusal's line fits into a program's buffer
pub line-fits : (s : List ℕ) → s ≡ lent → 11 ≤ length s
line-fits s e = omega (arith, ap length e, length-replicate {A = ℕ} program_bytes 0)

-- a refusal's line is what a program prints for it
pub refused-line : (n : ℕ) (text : List ℕ) → 1 ≤ n → decimal n ++ 10 ∷ [] ≡ printed n text
refused-line zero text h = absurd (omega arith)
refused-line (suc n) text h = refl
