-- The paths of one packet to a multicast LID through a fabric, port by port, and why each ends (IBA volume 1, chapter 14): by what
-- the switches and the channel adapters hold, whoever wrote it.
use Rattle.std.specs.Prelude.{ℕ, zero, suc, ◌+◌, ◌*◌, Bool, false, not, ◌==◌, ◌&&◌, ◌||◌, if◌then◌else◌, List, [], ◌∷◌, ◌++◌, length, slice_get, Option, None, Some}
use Rattle.std.specs.List.{list_any}
use Rattle.std.specs.Option.{option_map_or, option_to_list}
use Rattle.data_packet.specs.declared.packet.Packet.{Packet}
use Rattle.fabric_parts.specs.Cable.{far_end, is_same_port}
use Rattle.fabric_parts.specs.declared.cable.Cable.{Cable}
use Rattle.fabric_parts.specs.declared.cable.PortRef.{PortRef}
use Rattle.packet_trace.specs.Trace.{next_after, step, turn_by}
use Rattle.packet_trace.specs.declared.turn.Step.{Step}
use Rattle.packet_trace.specs.declared.turn.Turn.{Turn}
use Rattle.packet_trace.specs.declared.turn.Turn.TheVariants.{DropsInbound, DropsMask, Takes, DropsOutbound, NoCable, Meets, GoesOut, DropsKey}
use Rattle.smp_wire.specs.FabricState.{FabricState, adapter_port}
use Rattle.smp_wire.specs.declared.node.Node.{Node}
use Rattle.smp_wire.specs.declared.node.Node.TheVariants.{Switch, Adapter}
use Rattle.switch_model.specs.Forwarding.{passes_inbound, passes_outbound}
use Rattle.switch_model.specs.Multicast.{is_in_masks}
use Rattle.switch_model.specs.SwitchState.{SwitchState, num_ports}

-- the ports where the packet comes in, in the order in which they are found, and its steps so far
pub record SpreadState : Type 0 where
  pub known : List PortRef
  pub steps : List Step

-- here it ends
abbrev pub ends_by : Turn → PortRef → SpreadState → SpreadState
ends_by turn here spread = record { known = spread.known; steps = spread.steps ++ step here turn ∷ [] }

-- ---- out of one port of a switch
-- the bit of that port is set in the masks of its LID, and it did not come in there
abbrev pub is_out : SwitchState → ℕ → Packet → ℕ → Bool
is_out held in_port packet out = is_in_masks held.masks packet.dlid out && not (out == in_port)

-- what becomes of the copy for that port, whose cable leads there, where the packet comes in at these ports: port 0 without a
-- cable is the switch itself, which takes no data
abbrev pub turn_out : SwitchState → Packet → List PortRef → ℕ → Option PortRef → Turn
turn_out held packet known out None =
    if out == 0 then Takes
    else (if not (passes_outbound held.ports out packet.p_key) then DropsOutbound out
    else NoCable out)
turn_out held packet known out (Some there) =
    if not (passes_outbound held.ports out packet.p_key) then DropsOutbound out
    else (if list_any (is_same_port there) known then Meets out
    else GoesOut out)

-- where it goes on to is known from then on
abbrev pub goes_by : List Cable → PortRef → Turn → SpreadState → SpreadState
goes_by cables here turn spread = record {
  known = spread.known ++ option_to_list (next_after cables here turn);
  steps = spread.steps ++ step here turn ∷ [];
}

abbrev pub with_out : List Cable → SwitchState → Packet → PortRef → ℕ → SpreadState → SpreadState
with_out cables held packet here out spread =
    goes_by cables here (turn_out held packet spread.known out (far_end cables (record { node = here.node; port = out }))) spread

-- ---- at one port
-- out of the ports below this number, one after the other
abbrev pub outs_below : ℕ → List Cable → SwitchState → Packet → PortRef → SpreadState → SpreadState
outs_below zero cables held packet here spread = spread
outs_below (suc number) cables held packet here spread =
    let before = outs_below number cables held packet here spread in
    if is_out held here.port packet number then with_out cables held packet here number before else before

-- there is such a port
abbrev pub has_out_below : ℕ → SwitchState → ℕ → Packet → Bool
has_out_below zero held in_port packet = false
has_out_below (suc number) held in_port packet = has_out_below number held in_port packet || is_out held in_port packet number

-- ports are numbered from 0 to NumPorts
abbrev pub at_switch : List Cable → Packet → PortRef → SpreadState → SwitchState → SpreadState
at_switch cables packet here spread held =
    if not (passes_inbound held.ports here.port packet.p_key) then ends_by DropsInbound here spread
    else (if has_out_below (num_ports held + 1) held here.port packet then outs_below (num_ports held + 1) cables held packet here spread
    else ends_by DropsMask here spread)

-- if there is no such port, none takes it
abbrev pub at_node : List Cable → Packet → PortRef → SpreadState → Node → SpreadState
at_node cables packet here spread (Switch held) = at_switch cables packet here spread held
at_node cables packet here spread (Adapter ports) =
    ends_by (option_map_or (turn_by packet) (adapter_port ports here.port) DropsKey) here spread

unfoldable pub at_port : FabricState → Packet → PortRef → SpreadState → SpreadState
at_port fabric packet here spread =
    option_map_or (at_node fabric.cables packet here spread) (slice_get fabric.nodes here.node) (ends_by DropsKey here spread)

-- ---- from port to port
-- at so many of the known ports more at most, from the one at this place
abbrev pub spread_from : ℕ → FabricState → Packet → ℕ → SpreadState → SpreadState
spread_from zero fabric packet place spread = spread
spread_from (suc more) fabric packet place spread =
    option_map_or (λ here. spread_from more fabric packet (place + 1) (at_port fabric packet here spread))
    (slice_get spread.known place) spread

-- of a packet that comes in first at that port: it comes in at ends of cables alone, and each is known once
abbrev pub spread_of : FabricState → Packet → PortRef → SpreadState
spread_of fabric packet first =
    spread_from (2 * length fabric.cables + 1) fabric packet 0 (record { known = first ∷ []; steps = [] })
