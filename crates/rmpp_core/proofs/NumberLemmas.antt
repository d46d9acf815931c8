-- The numbers of a segment, and which ACK is the last.
use Rattle.std.proofs.Common.{◌≡◌, ℕ, ◌+◌, ◌-◌, ◌/◌, ◌==◌, inl, inr, nat_lt, List, length, max, Ok, ap, sym, ◌∙◌, arith}
use Rattle.std.proofs.lemmas.Bool.{cases_Bool, eq-eqb, eqb-true}
use Rattle.std.proofs.lemmas.Bool.Decides.{nat_tests}
use Rattle.mad_layout.specs.declared.rmpp_header.RmppHeader.{RmppHeader}
use Rattle.rmpp_core.specs.Acks.{after_ack}
use Rattle.rmpp_core.specs.declared.sender.Acknowledged.{Acknowledged}
use Rattle.rmpp_core.specs.Laws.{IsLastOf, LastAcksComplete, SegmentsHaveTheirNumbers}
use Rattle.rmpp_core.specs.Segments.{segment_count}
use Rattle.rmpp_core.proofs.ReadBackLemmas.{reads_back}

pub segments_have_their_numbers : SegmentsHaveTheirNumbers
segments_have_their_numbers transfer number is first last =
    let read = (reads_back transfer number is first last).rmpp in
    record {
      version = ap (λ (rmpp : RmppHeader). rmpp.version) read;
      kind = ap (λ (rmpp : RmppHeader). rmpp.kind) read;
      number_is = ap (λ (rmpp : RmppHeader). rmpp.segment_number) read;
    }

-- the number of the last segment
count_is_last : (long : ℕ) → IsLastOf long (max 1 ((long + 199) / 200))
count_is_last long = elim (cases_Bool (nat_lt long 201)) [
  | inl one ↦ let h : max 1 ((long + 199) / 200) ≡ 1 = grind (arith, nat_tests) in (omega arith, omega arith, inl h)
  | inr more ↦ let h : max 1 ((long + 199) / 200) ≡ (long + 199) / 200 = grind (arith, nat_tests) in (omega arith, omega arith, inr (omega arith))
]

last_is_count : (long number : ℕ) → IsLastOf long number → number ≡ max 1 ((long + 199) / 200)
last_is_count long number last = elim last.2 [
  | inl one ↦ grind (arith, nat_tests, last.1)
  | inr high ↦ grind (arith, nat_tests, last.0, last.1)
]

complete : (bytes : List ℕ) (window number new : ℕ) (acked : Acknowledged) → after_ack window (segment_count bytes) number new ≡ Ok acked
    → acked.is_complete ≡ (number == segment_count bytes)
complete bytes window number new acked same = elim (cases_Bool (nat_lt new number)) [
  | inl small ↦ absurd (let e = rw small at same in cc)
  | inr wide ↦ elim (cases_Bool (nat_lt (segment_count bytes) number)) [
    | inl big ↦ absurd (let e = rw (wide, big) at same in cc)
    | inr within ↦ let e = rw (wide, within) at same in cc
  ]
]

pub last_acks_complete : LastAcksComplete
last_acks_complete bytes window number new acked same =
    let is = complete bytes window number new acked same in
    record {
      then = λ done. let e = eqb-true number (segment_count bytes) (sym is ∙ done) in let last = count_is_last (length bytes) in
          subst_last (length bytes) number e last;
      only = λ last. is ∙ eq-eqb number (segment_count bytes) (last_is_count (length bytes) number last);
    }
  where
    subst_last : (long n : ℕ) → n ≡ max 1 ((long + 199) / 200) → IsLastOf long (max 1 ((long + 199) / 200)) → IsLastOf long n
    subst_last long n e last = rw e last
