-- Where a switch sends a data packet (IBA volume 1, chapter 14), by what SMPs wrote: LinearFDBTop, the LFT,
-- and each port's enforcement bits and P_Key table. No port's state is looked at, and a packet may
-- leave by the port at which it came in.
use Rattle.std.specs.Prelude.{ℕ, ◌≡◌, ◌≢◌, ◌≤◌, Bool, true, false, not, ◌==◌, ◌&&◌, ◌||◌, nat_le, if◌then◌else◌, List, slice_get, Option, Some, None}
use Rattle.std.specs.Option.{option_and_then, option_map_or}
use Rattle.data_packet.specs.declared.packet.Packet.{Packet}
use Rattle.pkey_rules.specs.KeyTable.{accepts}
use Rattle.pkey_rules.specs.StoredKeys.{stored_keys}
use Rattle.switch_model.specs.SwitchState.{SwitchState}
use Rattle.switch_model.specs.declared.switch_port.SwitchPort.{SwitchPort}

-- what a port that enforces partitions lets pass: what matches a key of its own table
abbrev pub port_accepts : SwitchPort → ℕ → Bool
port_accepts port p_key = accepts p_key (stored_keys port.keys)

-- a packet under this key may come in at the port of that number; at none, if there is no such port
abbrev pub passes_inbound : List SwitchPort → ℕ → ℕ → Bool
passes_inbound ports number p_key =
    option_map_or (λ port. not port.info.partition_enforcement_inbound || port_accepts port p_key)
    (slice_get ports number) false

-- it may leave by that port
abbrev pub passes_outbound : List SwitchPort → ℕ → ℕ → Bool
passes_outbound ports number p_key =
    option_map_or (λ port. not port.info.partition_enforcement_outbound || port_accepts port p_key)
    (slice_get ports number) false

-- the port that the linear forwarding table has for a LID; LinearFDBTop is the last LID that counts
abbrev pub linear_entry_of : SwitchState → ℕ → Option ℕ
linear_entry_of held lid = if nat_le lid held.info.linear_fdb_top then slice_get held.linear lid else None

-- an entry leads out of a port from 1 on: 0 is the switch itself, and an entry over NumPorts is no port
abbrev pub leaves_by : List SwitchPort → ℕ → ℕ → Option ℕ
leaves_by ports p_key out = if not (out == 0) && passes_outbound ports out p_key then Some out else None

-- the port by which a unicast packet that came in at this port leaves; none if the switch discards it, or takes it
-- itself
abbrev pub out_port : SwitchState → ℕ → Packet → Option ℕ
out_port held in_port packet =
    if passes_inbound held.ports in_port packet.p_key
    then option_and_then (leaves_by held.ports packet.p_key) (linear_entry_of held packet.dlid)
    else None

-- it leaves by that port, said part by part
pub record IsSentOut (held : SwitchState) (in_port : ℕ) (packet : Packet) (out : ℕ) : Type 0 where
  pub inbound : passes_inbound held.ports in_port packet.p_key ≡ true
  pub within : packet.dlid ≤ held.info.linear_fdb_top
  pub entry : slice_get held.linear packet.dlid ≡ Some out
  pub outside : out ≢ 0
  pub outbound : passes_outbound held.ports out packet.p_key ≡ true
