-- What a port of a channel adapter sends and takes, by its state, its LID and its P_Key table as SMPs wrote them.
use Rattle.std.specs.Prelude.{ℕ, Bool, not, ◌==◌, if◌then◌else◌, List, Option, Some, None, Result, Ok, Err}
use Rattle.std.specs.Option.{option_map_or}
use Rattle.attr_tables.specs.PortState.{port_state_code}
use Rattle.attr_tables.specs.declared.port_info.PortInfo.{PortInfo}
use Rattle.attr_tables.specs.declared.port_state.PortState.TheVariants.{Active}
use Rattle.data_packet.specs.QueuePair.{is_subnet_management}
use Rattle.data_packet.specs.declared.packet.Packet.{Packet}
use Rattle.data_packet.specs.declared.refusal.Refusal.{Refusal}
use Rattle.data_packet.specs.declared.refusal.Refusal.TheVariants.{PortNotActive, KeyNotHeld, QpZero, ReservedDlid}
use Rattle.fabric_parts.specs.Lid.{is_reserved}
use Rattle.pkey_rules.specs.KeyTable.{accepts, holds}
use Rattle.pkey_rules.specs.StoredKeys.{stored_keys}
use Rattle.port_model.specs.AdapterState.{AdapterState}

-- data passes in the state Active alone
abbrev pub is_active : PortInfo → Bool
is_active info = info.port_state == port_state_code Active

-- why the port sends no packet to this LID and this queue pair under this key, in the order in which it looks
abbrev pub refusal_of : AdapterState → (dlid p_key destination_qp : ℕ) → Option Refusal
refusal_of port dlid p_key destination_qp =
    if not (is_active port.info)
    then Some PortNotActive
    else if not (holds p_key (stored_keys port.keys))
    then Some KeyNotHeld
    else if is_subnet_management destination_qp
    then Some QpZero
    else if is_reserved dlid
    then Some ReservedDlid
    else None

-- the packet with these fields and this payload, which comes from the port's own LID
abbrev pub packet_from : AdapterState → (dlid p_key destination_qp : ℕ) → List ℕ → Packet
packet_from port dlid p_key destination_qp payload =
    record { slid = port.info.lid; dlid = dlid; p_key = p_key; destination_qp = destination_qp; payload = payload }

-- what the port sends, or why it sends nothing
abbrev pub stamped : AdapterState → (dlid p_key destination_qp : ℕ) → List ℕ → Result Packet Refusal
stamped port dlid p_key destination_qp payload =
    option_map_or Err (refusal_of port dlid p_key destination_qp)
    (Ok (packet_from port dlid p_key destination_qp payload))

-- the port takes what travels under a key that matches one of its own, and asks for nothing else
abbrev pub accepts_packet : AdapterState → Packet → Bool
accepts_packet port packet = accepts packet.p_key (stored_keys port.keys)
