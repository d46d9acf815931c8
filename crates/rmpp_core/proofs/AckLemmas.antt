-- Whatever ACKs come, segments go out in order.
use Rattle.std.proofs.Common.{◌≡◌, ℕ, zero, suc, ◌+◌, ◌-◌, ◌≤◌, Bool, true, false, nat_lt, ◌==◌, if◌then◌else◌, List, [], ◌∷◌, ◌++◌, min, max, Ok, Err}
use Rattle.std.proofs.Common.{refl, sym, ◌∙◌, ap, arith, append-nil}
use Rattle.std.specs.List.{range_with_len}
use Rattle.rmpp_core.specs.declared.abort.AbortCause.TheVariants.{WindowTooSmall, SegmentTooBig}
use Rattle.rmpp_core.specs.Laws.{SegmentsGoOutInOrder, sent_on_ack, sent_on_acks}

numbers_joined : (first m n : ℕ) → range_with_len first (m + n) ≡ range_with_len first m ++ range_with_len (first + m) n
numbers_joined first zero n =
    let none : first + 0 ≡ first = omega arith in
    let sum : 0 + n ≡ n = omega arith in
    ap (λ (k : ℕ). range_with_len first k) sum ∙ ap (λ (k : ℕ). range_with_len k n) (sym none)
numbers_joined first (suc m) n =
    let sum : suc m + n ≡ suc (m + n) = omega arith in
    let next : first + 1 + m ≡ first + suc m = omega arith in
    ap (λ (k : ℕ). range_with_len first k) sum
    ∙ ap (λ (rest : List ℕ). first ∷ rest) (numbers_joined (first + 1) m n ∙ ap (λ (k : ℕ). range_with_len (first + 1) m ++ range_with_len k n) next)

-- what is sent once the segments up to the window were: those after it, up to some last one
abbrev GoesOn : ℕ → ℕ → List ℕ → Type 0
GoesOn count window sent =
    (last : ℕ) × (min window count ≤ last) × (last ≤ count) × (sent ≡ range_with_len (min window count + 1) (last - min window count))

nothing_goes : (count window : ℕ) → GoesOn count window []
nothing_goes count window =
    let none : min window count - min window count ≡ 0 = omega arith in
    (min window count, omega arith, omega arith, rw none refl)

ack_goes : (count window new : ℕ) (small big complete : Bool) (later : List ℕ) → GoesOn count (max window new) later
    → GoesOn count window (sent_on_ack (if small then Err WindowTooSmall else if big then Err SegmentTooBig
    else Ok (record { first = min window count + 1; last = min (max window new) count; is_complete = complete })) later)
ack_goes count window new true big complete later h = nothing_goes count window
ack_goes count window new false true complete later h = nothing_goes count window
ack_goes count window new false false true later h =
    let last = min (max window new) count in
    let same : last + 1 - (min window count + 1) ≡ last - min window count = omega arith in
    (last, omega arith, omega arith, append-nil _ ∙ ap (λ (n : ℕ). range_with_len (min window count + 1) n) same)
ack_goes count window new false false false later (last, above, within, is) =
    let old = min window count in
    let next = min (max window new) count in
    let turn : old + 1 + (next + 1 - (old + 1)) ≡ next + 1 = omega arith in
    let all : (next + 1 - (old + 1)) + (last - next) ≡ last - old = omega (arith, above) in (
      last,
      omega (arith, above),
      within,
      ap (λ (rest : List ℕ). range_with_len (old + 1) (next + 1 - (old + 1)) ++ rest) (is ∙ ap (λ (n : ℕ). range_with_len n (last - next)) (sym turn))
          ∙ sym (numbers_joined (old + 1) (next + 1 - (old + 1)) (last - next)) ∙ ap (λ (n : ℕ). range_with_len (old + 1) n) all,
    )

acks_go : (count window : ℕ) (acks : List (ℕ × ℕ)) → GoesOn count window (sent_on_acks count window acks)
acks_go count window [] = nothing_goes count window
acks_go count window (ack ∷ acks) =
    ack_goes count window ack.1 (nat_lt ack.1 ack.0) (nat_lt count ack.0) (ack.0 == count) (sent_on_acks count (max window ack.1) acks)
    (acks_go count (max window ack.1) acks)

pub in_order : SegmentsGoOutInOrder
in_order count acks some = by (acks_go count 1 acks)
  where
    by : GoesOn count 1 (sent_on_acks count 1 acks) → (last : ℕ) × (last ≤ count) × (1 ∷ sent_on_acks count 1 acks ≡ range_with_len 1 last)
    by (last, above, within, is) =
        let one : min 1 count ≡ 1 = omega (arith, some) in
        let all : suc (last - 1) ≡ last = omega (arith, above, one) in
        let rest : sent_on_acks count 1 acks ≡ range_with_len (1 + 1) (last - 1) = is ∙ ap (λ (n : ℕ). range_with_len (n + 1) (last - n)) one in
        (last, within, ap (λ (rest : List ℕ). 1 ∷ rest) rest ∙ ap (λ (n : ℕ). range_with_len 1 n) all)
