-- A receiver of all segments has the bytes.
use Rattle.std.proofs.Common.{◌≡◌, ℕ, zero, suc, ◌+◌, ◌-◌, ◌*◌, ◌<◌, Bool, true, false, not, ◌==◌, if◌then◌else◌, bit_and}
use Rattle.std.proofs.Common.{List, [], ◌++◌, map, length, replicate, take, drop, Result, Ok, Err, Some, refl, sym, ◌∙◌, ap, subst, arith}
use Rattle.std.specs.List.{range_with_len}
use Rattle.std.proofs.Math.Seq.{take-add, take-append_seam}
use Rattle.std.proofs.lemmas.Bool.{and_from, eq-eqb, eqb-true, le-leb}
use Rattle.std.proofs.lemmas.Bool.Decides.{nat_tests}
use Rattle.std.proofs.lemmas.List.{take_all, length-take}
use Rattle.mad_layout.specs.declared.rmpp_header.RmppHeader.{RmppHeader}
use Rattle.mad_layout.specs.Bits.{bit_of}
use Rattle.rmpp_core.specs.declared.receiver.ReceiveFault.{ReceiveFault}
use Rattle.rmpp_core.specs.declared.receiver.ReceiveFault.TheVariants.{UnexpectedSegment, WrongLength}
use Rattle.rmpp_core.specs.Laws.{IsTransfer, segment_mads, after_all, SegmentsAreReceived}
use Rattle.rmpp_core.specs.Receiving.{ReassemblyState, nothing, is_last, is_expected, first_length_of, has_right_length, carried, grown, with_segment, whole_bytes}
use Rattle.mad_layout.specs.SaMad.{data_in}
use Rattle.rmpp_core.specs.Segments.{Transfer, segment_count, segment_of, payload_size, payload_length, padded_segment, segment_rmpp, segment_mad}
use Rattle.rmpp_core.proofs.CutLemmas.{segment_is, segment_length}
use Rattle.rmpp_core.proofs.ReadBackLemmas.{reads_back}

-- ---- which flags are set
pub active_set : (a b : Bool) → (bit_and (1 + 2 * bit_of a + 4 * bit_of b) 1 == 1) ≡ true
active_set true true = refl
active_set true false = refl
active_set false true = refl
active_set false false = refl

pub first_set : (a b : Bool) → (bit_and (1 + 2 * bit_of a + 4 * bit_of b) 2 == 2) ≡ a
first_set true true = refl
first_set true false = refl
first_set false true = refl
first_set false false = refl

last_set : (a b : Bool) → (bit_and (1 + 2 * bit_of a + 4 * bit_of b) 4 == 4) ≡ b
last_set true true = refl
last_set true false = refl
last_set false true = refl
last_set false false = refl

-- ---- what has come once so many segments have
abbrev so_far : Transfer → ℕ → ReassemblyState
so_far t k =
    record {
      segments = k;
      first_length = if k == 0 then 0 else payload_size t.bytes;
      bytes = take (200 * k) t.bytes;
      is_whole = k == segment_count t.bytes;
    }

turn_is : (k : ℕ) (f : Bool) → f ≡ (k + 1 == 1) → (if k == 0 then f else not f) ≡ true
turn_is zero f e = e
turn_is (suc k) f e =
    let later : (suc k + 1 == 1) ≡ false = grind (arith, nat_tests) in
    let start : (suc k == 0) ≡ false = grind (arith, nat_tests) in
    rw (start, e ∙ later) refl

expected : (t : Transfer) (k : ℕ) → k < segment_count t.bytes → is_expected (so_far t k) (segment_rmpp t.bytes (k + 1)) ≡ true
expected t k h =
    let count = segment_count t.bytes in
    let more : (k == count) ≡ false = grind (arith, nat_tests, h) in
    and_from _ _ (active_set (k + 1 == 1) (k + 1 == count))
    (and_from _ _ (ap (λ (b : Bool). not b) more)
    (and_from _ _ (eq-eqb (k + 1) (k + 1) refl) (turn_is k _ (first_set (k + 1 == 1) (k + 1 == count)))))

carried_is : (r : ReassemblyState) (rmpp : RmppHeader) (count : ℕ) → is_expected r rmpp ≡ true → (is_last rmpp ≡ false → count ≡ 200)
    → (is_last rmpp ≡ true → (has_right_length r rmpp ≡ true) × (rmpp.payload_length_or_new_window_last - 20 ≡ count)) → carried r rmpp ≡ Ok count
carried_is r rmpp count e full last = by (is_expected r rmpp) (is_last rmpp) (has_right_length r rmpp) e full last
  where
    by : (a b c : Bool) → a ≡ true → (b ≡ false → count ≡ 200) → (b ≡ true → (c ≡ true) × (rmpp.payload_length_or_new_window_last - 20 ≡ count))
        → (if not a then Err UnexpectedSegment else if not b then Ok 200 else if c then Ok (rmpp.payload_length_or_new_window_last - 20) else Err WrongLength) ≡ Ok count
    by true false c e full last = ap (λ (n : ℕ). Ok n) (sym (full refl))
    by true true true e full last = ap (λ (n : ℕ). Ok n) (last refl).1
    by true true false e full last = let no : false ≡ true = (last refl).0 in absurd cc
    by false b c e full last = absurd cc

-- ---- the last segment reports its own length, also where it is the first
own_length : (bytes : List ℕ) (k : ℕ) → k + 1 ≡ segment_count bytes → payload_length bytes (k + 1) ≡ length (segment_of bytes (k + 1)) + 20
own_length bytes zero last =
    let size = segment_length bytes 1 (omega arith) (omega (arith, last)) in
    omega (arith, size, last)
own_length bytes (suc k) last =
    let later : (suc k + 1 == 1) ≡ false = grind (arith, nat_tests) in
    let same : (suc k + 1 == segment_count bytes) ≡ true = eq-eqb (suc k + 1) (segment_count bytes) last in
    rw (later, same) refl

first_reported : (t : Transfer) (k : ℕ) → first_length_of (so_far t k) (segment_rmpp t.bytes (k + 1)) ≡ payload_size t.bytes
first_reported t zero = refl
first_reported t (suc k) = let start : (suc k == 0) ≡ false = grind (arith, nat_tests) in rw start refl

right : (t : Transfer) (k : ℕ) → k + 1 ≡ segment_count t.bytes → has_right_length (so_far t k) (segment_rmpp t.bytes (k + 1)) ≡ true
right t k last =
    let bytes = t.bytes in
    let own = own_length bytes k last in
    let size = segment_length bytes (k + 1) (omega arith) (omega (arith, last)) in
    let before = length-take (200 * k) bytes in
    let reported = first_reported t k in
    let place : k + 1 - 1 ≡ k = omega arith in
    and_from _ _ (le-leb 20 (payload_length bytes (k + 1)) (omega (arith, own)))
    (and_from _ _ (le-leb (payload_length bytes (k + 1)) 220 (omega (arith, own, size)))
    (eq-eqb _ _ (reported ∙ omega (arith, own, size, before, last, place))))

-- ---- each segment takes it one on
step : (t : Transfer) (k : ℕ) → IsTransfer t → k < segment_count t.bytes → with_segment (so_far t k) (segment_mad t (k + 1)) ≡ Ok (so_far t (k + 1))
unfolding with_segment
step t k is h =
    let bytes = t.bytes in
    let count = segment_count bytes in
    let n = k + 1 in
    let rmpp = segment_rmpp bytes n in
    let part = segment_of bytes n in
    let back = reads_back t n is (omega arith) (omega (arith, h)) in
    let size = segment_length bytes n (omega arith) (omega (arith, h)) in
    let place : k + 1 - 1 ≡ k = omega arith in
    let last = last_set (n == 1) (n == count) in
    let takes : carried (so_far t k) rmpp ≡ Ok (length part) =
    carried_is (so_far t k) rmpp (length part) (expected t k h)
    (λ e. let other : (n == count) ≡ false = sym last ∙ e in let before : n < count = grind (arith, nat_tests) in omega (arith, size, place, before))
    (λ e. let same : n ≡ count = eqb-true n count (sym last ∙ e) in (right t k same, omega (arith, own_length bytes k same))) in
    let kept : take (length part) (padded_segment bytes n) ≡ part = take-append_seam part (replicate (200 - length part) 0) in
    let more : 200 * k + 200 ≡ 200 * (k + 1) = omega arith in
    let joined : take (200 * k) bytes ++ part ≡ take (200 * (k + 1)) bytes =
    ap (λ (xs : List ℕ). take (200 * k) bytes ++ xs) (segment_is bytes n (omega arith) (omega (arith, h)) ∙ ap (λ (i : ℕ). take 200 (drop (200 * i) bytes)) place)
    ∙ sym (take-add (200 * k) 200 bytes) ∙ ap (λ (i : ℕ). take i bytes) more in
    let start : (n == 0) ≡ false = grind (arith, nat_tests) in
    let first : first_length_of (so_far t k) rmpp ≡ (if n == 0 then 0 else payload_size bytes) = rw start (first_reported t k) in
    let grows : grown (so_far t k) rmpp (padded_segment bytes n) (Ok (length part)) ≡ Ok (so_far t n) =
    ap (λ (r : ReassemblyState). Ok r) (λ p. record {
      segments = n;
      first_length = first p;
      bytes = (ap (λ (xs : List ℕ). take (200 * k) bytes ++ xs) kept ∙ joined) p;
      is_whole = last p;
    }) in
    let A : RmppHeader → Type 0 = λ r. grown (so_far t k) r (data_in (segment_mad t n)) (carried (so_far t k) r) ≡ Ok (so_far t n) in
    let B : List ℕ → Type 0 = λ d. grown (so_far t k) rmpp d (carried (so_far t k) rmpp) ≡ Ok (so_far t n) in
    let C : Result ℕ ReceiveFault → Type 0 = λ c. grown (so_far t k) rmpp (padded_segment bytes n) c ≡ Ok (so_far t n) in
    subst A (sym back.rmpp) (subst B (sym back.part) (subst C (sym takes) grows))

from_here : (t : Transfer) (k left : ℕ) → IsTransfer t → k + left ≡ segment_count t.bytes
    → after_all (Ok (so_far t k)) (map (segment_mad t) (range_with_len (k + 1) left)) ≡ Ok (so_far t (segment_count t.bytes))
from_here t k zero is e = let same : k ≡ segment_count t.bytes = omega (arith, e) in ap (λ (n : ℕ). Ok (so_far t n)) same
from_here t k (suc left) is e =
    ap (λ (r : Result ReassemblyState ReceiveFault). after_all r (map (segment_mad t) (range_with_len (k + 1 + 1) left))) (step t k is (omega (arith, e)))
    ∙ from_here t (k + 1) left is (omega (arith, e))

pub received : SegmentsAreReceived
received t is =
    let count = segment_count t.bytes in
    let some : (0 == count) ≡ false = grind (arith, nat_tests) in
    let start : nothing ≡ so_far t 0 = λ p. record { segments = 0; first_length = 0; bytes = []; is_whole = sym some p } in
    let all : after_all (Ok nothing) (segment_mads t) ≡ Ok (so_far t count) =
    ap (λ (r : ReassemblyState). after_all (Ok r) (segment_mads t)) start ∙ from_here t 0 count is (omega arith) in
    let done : (count == count) ≡ true = eq-eqb count count refl in
    ap whole_bytes all ∙ rw done (ap (λ (xs : List ℕ). Some xs) (take_all (200 * count) t.bytes (omega arith)))
