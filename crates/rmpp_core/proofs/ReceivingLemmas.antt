-- What a receiver does with a segment.
use Rattle.std.proofs.Common.{◌≡◌, ℕ, ◌+◌, Bool, List, ◌++◌, take, Result, Ok, Err, sym, subst}
use Rattle.mad_layout.specs.declared.rmpp_header.RmppHeader.{RmppHeader}
use Rattle.rmpp_core.specs.declared.receiver.ReceiveFault.{ReceiveFault}
use Rattle.rmpp_core.specs.Receiving.{ReassemblyState, is_last, first_length_of, carried, grown, with_segment, Grows}
use Rattle.mad_layout.specs.RmppHeader.{rmpp_in}
use Rattle.mad_layout.specs.SaMad.{data_in}

segment_grows : (so_far : ReassemblyState) (mad : List ℕ) (rmpp : RmppHeader) (given : Result ℕ ReceiveFault) (result : Result (Unit {0}) ReceiveFault) (new : ReassemblyState)
    → rmpp ≡ rmpp_in mad → carried so_far rmpp ≡ given → Grows (grown so_far rmpp (data_in mad) given) result new → Grows (with_segment so_far mad) result new
unfolding with_segment
segment_grows so_far mad rmpp given result new r e grows =
    let P : Result ℕ ReceiveFault → Type 0 = λ count. Grows (grown so_far rmpp (data_in mad) count) result new in
    let Q : RmppHeader → Type 0 = λ h. Grows (grown so_far h (data_in mad) (carried so_far h)) result new in
    subst Q r (subst P (sym e) grows)

pub refused : (so_far : ReassemblyState) (mad : List ℕ) (rmpp : RmppHeader) (fault : ReceiveFault) (result : Result (Unit {0}) ReceiveFault) (new : ReassemblyState)
    → rmpp ≡ rmpp_in mad → carried so_far rmpp ≡ Err fault → result ≡ Err fault → Grows (with_segment so_far mad) result new
refused so_far mad rmpp fault result new r e f = segment_grows so_far mad rmpp (Err fault) result new r e f

pub taken : (so_far : ReassemblyState) (mad : List ℕ) (rmpp : RmppHeader) (count segments first : ℕ) (bytes : List ℕ) (last : Bool)
    → rmpp ≡ rmpp_in mad → carried so_far rmpp ≡ Ok count → segments ≡ so_far.segments + 1 → first ≡ first_length_of so_far rmpp
    → bytes ≡ so_far.bytes ++ take count (data_in mad) → last ≡ is_last rmpp
    → Grows (with_segment so_far mad) (Ok tt) (record { segments = segments; first_length = first; bytes = bytes; is_whole = last })
taken so_far mad rmpp count segments first bytes last r e s f b l =
    segment_grows so_far mad rmpp (Ok count) (Ok tt) (record { segments = segments; first_length = first; bytes = bytes; is_whole = last }) r e
    (λ place. record { segments = s place; first_length = f place; bytes = b place; is_whole = l place })
