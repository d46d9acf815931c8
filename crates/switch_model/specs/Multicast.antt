-- Where a switch sends a packet to a multicast LID (IBA volume 1, chapter 14), by what SMPs wrote: the multicast
-- forwarding table, and each port's enforcement bits and P_Key table. No port's state is looked at.
use Rattle.std.specs.Prelude.{ℕ, ◌≡◌, ◌≢◌, ◌-◌, ◌/◌, ◌%◌, Bool, true, false, not, ◌==◌, ◌&&◌, if◌then◌else◌, List, slice_get, Option, None}
use Rattle.std.specs.Int.{bit_at}
use Rattle.std.specs.List.{list_any}
use Rattle.std.specs.Option.{option_and_then, option_map_or}
use Rattle.data_packet.specs.declared.packet.Packet.{Packet}
use Rattle.fabric_parts.specs.Lid.{is_multicast}
use Rattle.fabric_parts.specs.declared.lid.TheConstants.{FIRST_MULTICAST_LID}
use Rattle.switch_model.specs.Forwarding.{passes_inbound, passes_outbound}
use Rattle.switch_model.specs.SwitchState.{SwitchState}

-- ---- the masks of a LID: that of position p has a bit for each of the ports 16 p to 16 p + 15
-- one of these masks of a position; none for a LID that is no multicast LID, or has no mask in the table
abbrev pub mask_of : ℕ → List ℕ → Option ℕ
mask_of lid masks = if is_multicast lid then slice_get masks (lid - FIRST_MULTICAST_LID) else None

-- the bit of the port of this number is set in them
abbrev pub is_in_masks : List (List ℕ) → ℕ → ℕ → Bool
is_in_masks masks lid number =
    option_map_or (λ mask. bit_at mask (number % 16) == 1) (option_and_then (mask_of lid) (slice_get masks (number / 16))) false

-- some bit of one of them is set, or of one of all
abbrev pub has_bit : ℕ → List ℕ → Bool
has_bit lid masks = option_map_or (λ mask. not (mask == 0)) (mask_of lid masks) false

abbrev pub has_bits : List (List ℕ) → ℕ → Bool
has_bits masks lid = list_any (has_bit lid) masks

-- ---- a packet to a group that came in at this port leaves by that one too: by each whose bit is set, except the one if
-- it came in, unless the enforcement of one of the two ports is against it
abbrev pub copies_out : SwitchState → ℕ → Packet → ℕ → Bool
copies_out held in_port packet out =
    (passes_inbound held.ports in_port packet.p_key && not (out == in_port))
    && (is_in_masks held.masks packet.dlid out && passes_outbound held.ports out packet.p_key)

-- the same, said part by part
pub record IsCopiedOut (held : SwitchState) (in_port : ℕ) (packet : Packet) (out : ℕ) : Type 0 where
  pub inbound : passes_inbound held.ports in_port packet.p_key ≡ true
  pub onward : out ≢ in_port
  pub group : is_in_masks held.masks packet.dlid out ≡ true
  pub outbound : passes_outbound held.ports out packet.p_key ≡ true
