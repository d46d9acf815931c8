-- Which segments a receiver takes (IBA volume 1, chapter 13).
use Rattle.std.specs.Prelude.{ℕ, ◌≡◌, ◌+◌, ◌-◌, ◌*◌, ◌==◌, Bool, false, ◌&&◌, not, nat_le, if◌then◌else◌, bit_and}
use Rattle.std.specs.Prelude.{List, [], ◌++◌, length, take, Option, Some, None, Result, Ok, Err}
use Rattle.mad_layout.specs.declared.rmpp_header.RmppHeader.{RmppHeader}
use Rattle.mad_layout.specs.declared.rmpp_kind.RmppKind.TheVariants.{Data}
use Rattle.mad_layout.specs.RmppHeader.{rmpp_in}
use Rattle.mad_layout.specs.SaMad.{data_in}
use Rattle.mad_layout.specs.RmppKind.{rmpp_kind_code}
use Rattle.rmpp_core.specs.declared.receiver.ReceiveFault.{ReceiveFault}
use Rattle.rmpp_core.specs.declared.receiver.ReceiveFault.TheVariants.{NoMemory, UnexpectedSegment, WrongLength}

-- ---- what a MAD says as a segment
-- its PayloadLength
abbrev pub payload_length_of : RmppHeader → ℕ
payload_length_of rmpp = rmpp.payload_length_or_new_window_last

abbrev pub has_flag : ℕ → RmppHeader → Bool
has_flag flag rmpp = bit_and rmpp.flags flag == flag

-- Active, First and Last
abbrev pub is_data : RmppHeader → Bool
is_data rmpp = (rmpp.version == 1) && ((rmpp.kind == rmpp_kind_code Data) && has_flag 1 rmpp)

abbrev pub is_first : RmppHeader → Bool
is_first rmpp = has_flag 2 rmpp

abbrev pub is_last : RmppHeader → Bool
is_last rmpp = has_flag 4 rmpp

-- ---- what has come: how many segments, the length that the first one reported, the bytes, and whether the last one came
pub record ReassemblyState : Type 0 where
  pub segments : ℕ
  pub first_length : ℕ
  pub bytes : List ℕ
  pub is_whole : Bool

abbrev pub nothing : ReassemblyState
nothing = record { segments = 0; first_length = 0; bytes = []; is_whole = false }

-- the next segment has the next number; First is on number 1 alone, and after Last none is next
abbrev pub is_expected : ReassemblyState → RmppHeader → Bool
is_expected so_far rmpp =
    is_data rmpp
    && (not so_far.is_whole
    && ((rmpp.segment_number == so_far.segments + 1)
    && (if so_far.segments == 0 then is_first rmpp else not (is_first rmpp))))

-- the length that the first segment reported, which may be this one
abbrev pub first_length_of : ReassemblyState → RmppHeader → ℕ
first_length_of so_far rmpp = if so_far.segments == 0 then payload_length_of rmpp else so_far.first_length

-- beside its data each segment counts for 20 bytes: the last reports its own length, the first that of all
abbrev pub has_right_length : ReassemblyState → RmppHeader → Bool
has_right_length so_far rmpp =
    nat_le 20 (payload_length_of rmpp)
    && (nat_le (payload_length_of rmpp) 220
    && (first_length_of so_far rmpp == 20 * (so_far.segments + 1) + (length so_far.bytes + (payload_length_of rmpp - 20))))

-- how many bytes of its data a segment has
abbrev pub carried : ReassemblyState → RmppHeader → Result ℕ ReceiveFault
carried so_far rmpp =
    if not (is_expected so_far rmpp) then Err UnexpectedSegment
    else if not (is_last rmpp) then Ok 200
    else if has_right_length so_far rmpp then Ok (payload_length_of rmpp - 20)
    else Err WrongLength

abbrev pub grown : ReassemblyState → RmppHeader → List ℕ → Result ℕ ReceiveFault → Result ReassemblyState ReceiveFault
grown so_far rmpp bytes (Ok count) =
    Ok (record {
      segments = so_far.segments + 1;
      first_length = first_length_of so_far rmpp;
      bytes = so_far.bytes ++ take count bytes;
      is_whole = is_last rmpp;
    })
grown so_far rmpp bytes (Err fault) = Err fault

unfoldable pub with_segment : ReassemblyState → List ℕ → Result ReassemblyState ReceiveFault
with_segment so_far mad = grown so_far (rmpp_in mad) (data_in mad) (carried so_far (rmpp_in mad))

-- ---- a receiver has what has come, or the fault for which it takes no more
abbrev pub unless : Option ReceiveFault → ReassemblyState → Result ReassemblyState ReceiveFault
unless None so_far = Ok so_far
unless (Some fault) so_far = Err fault

abbrev pub after_data : Result ReassemblyState ReceiveFault → List ℕ → Result ReassemblyState ReceiveFault
after_data (Ok so_far) mad = with_segment so_far mad
after_data (Err fault) mad = Err fault

abbrev pub whole_of : ReassemblyState → Option (List ℕ)
whole_of so_far = if so_far.is_whole then Some so_far.bytes else None

abbrev pub whole_bytes : Result ReassemblyState ReceiveFault → Option (List ℕ)
whole_bytes (Ok so_far) = whole_of so_far
whole_bytes (Err fault) = None

-- a call does what is defined, or an allocation fails if the definition refuses nothing
abbrev pub Grows : Result ReassemblyState ReceiveFault → Result (Unit {0}) ReceiveFault → ReassemblyState → Type 0
Grows (Err fault) result new = result ≡ Err fault
Grows (Ok next) (Ok done) new = new ≡ next
Grows (Ok next) (Err fault) new = fault ≡ NoMemory

abbrev pub Takes : Result ReassemblyState ReceiveFault → Result (Unit {0}) ReceiveFault → Result ReassemblyState ReceiveFault → Type 0
Takes (Err fault) result new = (result ≡ Err fault) × (new ≡ Err fault)
Takes (Ok next) (Ok done) new = new ≡ Ok next
Takes (Ok next) (Err fault) new = (fault ≡ NoMemory) × (new ≡ Err NoMemory)
