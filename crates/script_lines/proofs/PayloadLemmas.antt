-- The bytes that digits encode, and those behind them.
use Rattle.std.proofs.Common.{◌≡◌, ℕ, ◌+◌, ◌-◌, ◌*◌, ◌/◌, ◌<◌, ◌≤◌, false, nat_le, List, ◌++◌, length, take, drop, replicate, Result, Ok, Err}
use Rattle.std.proofs.Common.{MatchResult, inl, inr, refl, sym, ◌∙◌, ap, arith}
use Rattle.std.proofs.lemmas.Bool.{cases_Bool, le-leb, leb-true}
use Rattle.std.proofs.lemmas.Bool.Decides.{nat_tests}
use Rattle.std.specs.Result.{result_ok}
use Rattle.std.proofs.lemmas.List.{append_assoc, append-nil, drop-replicate, length-append, length-replicate, length-take-le, replicate-append-replicate}
use Rattle.std.proofs.Math.Seq.{take-append_seam}
use Rattle.hex.specs.Hex.{decode_of, decode_sized}
use Rattle.hex.specs.declared.error.FromHexError.{FromHexError}
use Rattle.hex.proofs.HexLemmas.{decode_of-ok, decode_sized-ok, decode_sized-twice}
use Rattle.step_results.proofs.StepLemmas.{same_err}
use Rattle.script_lines.specs.declared.script_cause.ScriptCause.{ScriptCause}
use Rattle.script_lines.specs.declared.script_cause.ScriptCause.TheVariants.{BadField}
use Rattle.step_results.proofs.StepLemmas.{let_through, same_ok}
use Rattle.step_results.specs.Steps.{◌>>=◌}
use Rattle.script_lines.specs.EncodedBytes.{bytes_or_fault, filled, in_room, encoded}

not_le : (m n : ℕ) → n < m → nat_le m n ≡ false
not_le m n h = grind (arith, nat_tests)

-- more bytes than there is room for
pub too_long : (size : ℕ) (digits : List ℕ) → size < length digits / 2 → encoded size digits ≡ Err BadField
unfolding encoded
too_long size digits h = by (decode_of digits) refl
  where
    by : (decoded : Result (List ℕ) FromHexError) → decode_of digits ≡ decoded → encoded size digits ≡ Err BadField
    by (Ok bytes) e =
        let twice = (decode_of-ok digits bytes e).2 in
        rw (e, not_le (length bytes) size (omega arith)) refl
    by (Err why) e = rw e refl

-- digits that do not decode
pub refused : (size count : ℕ) (digits : List ℕ) (why : FromHexError) → count ≡ length digits / 2 → decode_sized digits count ≡ Err why
    → encoded size digits ≡ Err BadField
unfolding encoded
refused size count digits why half h = by (decode_of digits) refl
  where
    by : (decoded : Result (List ℕ) FromHexError) → decode_of digits ≡ decoded → encoded size digits ≡ Err BadField
    by (Ok bytes) e =
        let twice = (decode_of-ok digits bytes e).2 in
        let even : length digits ≡ 2 * count = omega arith in
        absurd (cc (sym h ∙ (decode_sized-twice digits count even ∙ e)))
    by (Err why) e = rw e refl

-- a room of zeros, in which they were decoded
pub encoded_out : (size count room : ℕ) (digits bytes : List ℕ) → decode_sized digits count ≡ Ok bytes → count ≤ size → size ≤ room
    → in_room room (encoded size digits) ≡ Ok (bytes ++ drop count (replicate room 0))
unfolding encoded
encoded_out size count room digits bytes h fits within =
    let even = decode_sized-ok digits count bytes h in
    let decoded : decode_of digits ≡ Ok bytes = sym (decode_sized-twice digits count even) ∙ h in
    let twice = (decode_of-ok digits bytes decoded).2 in
    let zeros : List ℕ = replicate (size - length bytes) 0 in
    let long = length-append bytes zeros in
    let more = length-replicate {A = ℕ} (size - length bytes) 0 in
    let whole : length (bytes ++ zeros) ≡ size = omega (arith, long, more) in
    let count_is : (size - length bytes) + (room - size) ≡ room - count = omega arith in
    let joined : zeros ++ replicate (room - size) 0 ≡ replicate ((size - length bytes) + (room - size)) 0 =
    replicate-append-replicate (size - length bytes) (room - size) 0 in
    let behind : zeros ++ replicate (room - size) 0 ≡ replicate (room - count) 0 = rw count_is at joined in
    let rest : zeros ++ replicate (room - size) 0 ≡ drop count (replicate room 0) = rw (drop-replicate {X = ℕ} count room 0) behind in
    let filled : (bytes ++ zeros) ++ replicate (room - size) 0 ≡ bytes ++ drop count (replicate room 0) =
    append_assoc bytes zeros (replicate (room - size) 0) ∙ ap (λ some. bytes ++ some) rest in
    rw (decoded, le-leb (length bytes) size (omega arith), whole, le-leb size room within, filled) refl

-- and what of the room was encoded
pub encoded_again : (size room : ℕ) (digits : List ℕ) (bytes : List ℕ) → in_room room (encoded size digits) ≡ Ok bytes → encoded size digits ≡ Ok (take size bytes)
unfolding encoded
encoded_again size room digits bytes h = by (decode_of digits) h
  where
    by : (decoded : Result (List ℕ) FromHexError) → in_room room (bytes_or_fault decoded >>= λ some. filled size some) ≡ Ok bytes
        → (bytes_or_fault decoded >>= λ some. filled size some) ≡ Ok (take size bytes)
    by (Err why) h = absurd cc
    by (Ok some) h = elim (cases_Bool (nat_le (length some) size)) [
      | inl fits ↦
          let zeros : List ℕ = replicate (size - length some) 0 in
          let long = length-append some zeros in
          let more = length-replicate {A = ℕ} (size - length some) 0 in
          let within = leb-true (length some) size fits in
          let whole : length (some ++ zeros) ≡ size = omega (arith, long, more) in
          let room_is = let_through (nat_le (length (some ++ zeros)) room) (Ok ((some ++ zeros) ++ replicate (room - length (some ++ zeros)) 0)) BadField bytes (rw fits at h) in
          let same = same_ok _ bytes room_is.1 in
          rw fits (ap (λ (given : List ℕ). Ok given)
          (sym (take-append_seam (some ++ zeros) (replicate (room - length (some ++ zeros)) 0)) ∙ ap (λ (n : ℕ). take n ((some ++ zeros) ++ replicate (room - length (some ++ zeros)) 0)) whole ∙ ap (take size) same))
      | inr too_many ↦ absurd (cc (rw too_many at h))
    ]

pub room_of : (n room : ℕ) → n ≤ room → length {A = ℕ} (take n (replicate room 0)) ≡ n
room_of n room h =
    let zeros : List ℕ = replicate room 0 in
    length-take-le n zeros (omega (arith, length-replicate {A = ℕ} room 0))

-- what the decoder answers
pub decoded_so : (given : Result (List ℕ) FromHexError) (reported : Result (Unit {0}) FromHexError) (out : List ℕ) (x : Unit {0})
    → MatchResult given (λ bytes. (reported ≡ Ok tt) × (out ≡ bytes)) (λ why. reported ≡ Err why) → reported ≡ Ok x → given ≡ Ok out
decoded_so (Ok bytes) reported out x h ok = ap Ok (sym h.1)
decoded_so (Err why) reported out x h ok = absurd (cc (sym ok ∙ h))

pub refused_so : (given : Result (List ℕ) FromHexError) (reported : Result (Unit {0}) FromHexError) (out : List ℕ) (why : FromHexError)
    → MatchResult given (λ bytes. (reported ≡ Ok tt) × (out ≡ bytes)) (λ e. reported ≡ Err e) → reported ≡ Err why → given ≡ Err why
refused_so (Ok bytes) reported out why h err = absurd (cc (sym err ∙ h.0))
refused_so (Err e) reported out why h err = let same : e ≡ why = same_err _ _ (sym h ∙ err) in rw same refl

-- what does not go into the room was no bytes
pub encoded_wrong : (size room : ℕ) (digits : List ℕ) (cause : ScriptCause) → size ≤ room → in_room room (encoded size digits) ≡ Err cause → encoded size digits ≡ Err cause
unfolding encoded
encoded_wrong size room digits cause within h = by (decode_of digits) h
  where
    by : (decoded : Result (List ℕ) FromHexError) → in_room room (bytes_or_fault decoded >>= λ some. filled size some) ≡ Err cause
        → (bytes_or_fault decoded >>= λ some. filled size some) ≡ Err cause
    by (Err why) h = h
    by (Ok some) h = elim (cases_Bool (nat_le (length some) size)) [
      | inl fits ↦
          let zeros : List ℕ = replicate (size - length some) 0 in
          let long = length-append some zeros in
          let more = length-replicate {A = ℕ} (size - length some) 0 in
          let small = leb-true (length some) size fits in
          let whole : length (some ++ zeros) ≤ room = omega (arith, long, more) in
          absurd (cc (rw (fits, le-leb (length (some ++ zeros)) room whole) at h))
      | inr too_many ↦ rw too_many (rw too_many at h)
    ]

-- what is encoded fills a room of its size
encoded_fills : (size : ℕ) (digits some : List ℕ) → encoded size digits ≡ Ok some → length some ≡ size
unfolding encoded
encoded_fills size digits some h = by (decode_of digits) h
  where
    by : (decoded : Result (List ℕ) FromHexError) → (bytes_or_fault decoded >>= λ bytes. filled size bytes) ≡ Ok some → length some ≡ size
    by (Err why) h = absurd cc
    by (Ok bytes) h =
        let zeros : List ℕ = replicate (size - length bytes) 0 in
        let through = let_through (nat_le (length bytes) size) (Ok (bytes ++ zeros)) BadField some h in
        let same = same_ok (bytes ++ zeros) some through.1 in
        let small = leb-true (length bytes) size through.0 in
        let long = length-append bytes zeros in
        let more = length-replicate {A = ℕ} (size - length bytes) 0 in
        rw (← same) (omega (arith, long, more, small))

pub same_room : (size : ℕ) (digits : List ℕ) → result_ok (in_room size (encoded size digits)) ≡ result_ok (encoded size digits)
same_room size digits = by (encoded size digits) refl
  where
    by : (given : Result (List ℕ) ScriptCause) → encoded size digits ≡ given → result_ok (in_room size given) ≡ result_ok given
    by (Err cause) e = refl
    by (Ok some) e =
        let whole = encoded_fills size digits some e in
        let none : size - length some ≡ 0 = omega arith in
        rw (le-leb (length some) size (omega arith), none, append-nil some) refl
