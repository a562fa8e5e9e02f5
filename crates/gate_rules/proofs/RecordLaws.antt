-- Records that are written one after another are all of them put at once, as many as there is room for.
use Rattle.std.specs.Prelude.{ℕ, zero, suc, ◌+◌, ◌*◌, ◌-◌, ◌/◌, ◌≤◌, ◌<◌, min, ◌≡◌, refl, true, List, [], ◌++◌, ◌∷◌, ltb, drop, length, take}
use Rattle.std.proofs.Common.{ap, ap₂, sym, ◌∙◌, inl, inr, arith, le-ltb, lt-ltb, ltb-false, ltb-true}
use Rattle.text_rules.specs.Bytes.{All, joined, overwritten, put_at}
use Rattle.text_rules.specs.BytesLaws.{whether}
use Rattle.text_rules.proofs.PutLaws.{put-length, put_next}
use Rattle.text_rules.specs.Sizes.{max_functions, record_width}
use Rattle.text_rules.proofs.WriterLaws.{put-none}
use Rattle.gate_rules.proofs.BufferLaws.{wide-joined}
use Rattle.gate_rules.specs.Calls.{room}
use Rattle.gate_rules.specs.RecordForms.{Wide, put_record, put_records}

pub put-records-append : (number : ℕ) (rs qs : List (List ℕ)) (buffer : List ℕ) → put_records number (rs ++ qs) buffer ≡ put_records (number + length rs) qs (put_records number rs buffer)
unfolding put_records
put-records-append number [] qs buffer = let e : number ≡ number + 0 = omega arith in ap (λ n. put_records n qs buffer) e
put-records-append number (r ∷ rs) qs buffer =
    let e : suc number + length rs ≡ number + suc (length rs) = omega arith in
    put-records-append (suc number) rs qs (put_record number r buffer) ∙ ap (λ n. put_records n qs (put_records (suc number) rs (put_record number r buffer))) e

pub put_record_length : (number : ℕ) (r buffer : List ℕ) → Wide r → length (put_record number r buffer) ≡ length buffer
unfolding put_record
put_record_length number r buffer w =
    elim (whether (ltb number (room buffer))) [
      | inl e ↦ rw e (put-length (record_width * number) r buffer (omega (arith, ltb-true number (room buffer) e)))
      | inr e ↦ rw e
    ]

put-here : (number : ℕ) (r buffer : List ℕ) → ltb number (room buffer) ≡ true → put_record number r buffer ≡ put_at (record_width * number) r buffer
unfolding put_record
put-here number r buffer e = rw e

-- the ways that code goes: there is room, or there is none
pub put-room : (number at : ℕ) (r buffer : List ℕ) → number < room buffer → at ≡ number * record_width → put_at at r buffer ≡ put_record number r buffer
put-room number at r buffer h e =
    let d : at ≡ record_width * number = omega arith in
    ap (λ i. put_at i r buffer) d ∙ sym (put-here number r buffer (lt-ltb number (room buffer) h))

pub put_full : (number : ℕ) (r buffer : List ℕ) → room buffer ≤ number → buffer ≡ put_record number r buffer
unfolding put_record
put_full number r buffer h = rw (le-ltb number (room buffer) h)

-- where there is no room, nothing is put
beyond : (number : ℕ) (rs : List (List ℕ)) (buffer : List ℕ) → room buffer ≤ number → put_records number rs buffer ≡ buffer
unfolding put_records put_record
beyond number [] buffer h = refl
beyond number (r ∷ rs) buffer h = rw (le-ltb number (room buffer) h) (beyond (suc number) rs buffer (omega arith))

joined-some : (n room' : ℕ) (r : List ℕ) (rs : List (List ℕ)) → n < room' → joined (take (room' - n) (r ∷ rs)) ≡ r ++ joined (take (room' - suc n) rs)
joined-some n room' r rs h = let e : room' - n ≡ suc (room' - suc n) = omega arith in ap (λ k. joined (take k (r ∷ rs))) e

from-number : (number : ℕ) (rs : List (List ℕ)) → All Wide rs → (buffer : List ℕ) → number ≤ room buffer
    → put_records number rs buffer ≡ put_at (record_width * number) (joined (take (room buffer - number) rs)) buffer
unfolding put_records
from-number number [] w buffer h = sym (ap (λ t. put_at (record_width * number) t buffer) (none (room buffer - number)) ∙ put-none (record_width * number) buffer)
  where
    none : (k : ℕ) → joined (take k []) ≡ []
    none zero = refl
    none (suc k) = refl
from-number number (r ∷ rs) w buffer h =
    elim (whether (ltb number (room buffer))) [
      | inr e ↦
          let full : room buffer ≤ number = ltb-false number (room buffer) e in
          let z : room buffer - number ≡ 0 = omega arith in
          beyond number (r ∷ rs) buffer full ∙ sym (ap (λ k. put_at (record_width * number) (joined (take k (r ∷ rs))) buffer) z ∙ put-none (record_width * number) buffer)
      | inl e ↦
          let more : number < room buffer = ltb-true number (room buffer) e in
          let put : List ℕ = put_at (record_width * number) r buffer in
          let here : put_record number r buffer ≡ put = put-here number r buffer e in
          let size : length put ≡ length buffer = put-length (record_width * number) r buffer (omega (arith, w.0)) in
          let roomy : room put ≡ room buffer = ap (λ n. min max_functions (n / record_width)) size in
          let rest : List ℕ = joined (take (room buffer - suc number) rs) in
          let short : length (joined (take (room buffer - suc number) rs)) ≤ record_width * (room buffer - suc number) = wide-joined (room buffer - suc number) rs w.1 in
          let behind : record_width * suc number ≡ record_width * number + length r = omega (arith, w.0) in
          ap (put_records (suc number) rs) here
          ∙ from-number (suc number) rs w.1 put (omega arith)
          ∙ ap₂ (λ at k. put_at at (joined (take (k - suc number) rs)) put) behind roomy
          ∙ put_next (record_width * number) r rest buffer (omega (arith, w.0))
          ∙ sym (ap (λ t. put_at (record_width * number) t buffer) (joined-some number (room buffer) r rs more))
    ]

-- from the first record on: as many as there is room for, and the bytes beyond remain
pub put-records-is : (rs : List (List ℕ)) → All Wide rs → (buffer : List ℕ) → put_records 0 rs buffer ≡ overwritten (joined (take (room buffer) rs)) buffer
put-records-is rs w buffer =
    let z : room buffer - 0 ≡ room buffer = omega arith in
    from-number 0 rs w buffer (omega arith) ∙ ap (λ k. put_at 0 (joined (take k rs)) buffer) z ∙ at-start (joined (take (room buffer) rs)) buffer
  where
    at-start : (xs s : List ℕ) → put_at 0 xs s ≡ overwritten xs s
    at-start xs s = let e : 0 + length xs ≡ length xs = omega arith in ap (λ n. xs ++ drop n s) e
