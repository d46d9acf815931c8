-- What becomes of a data packet at a switch, and why: the same as where it is sent, with a reason for each packet that is not.
use Rattle.std.specs.Prelude.{ℕ, ◌==◌, not, nat_le, nat_lt, if◌then◌else◌, List, length, slice_get, Option, Some, None}
use Rattle.std.specs.Option.{option_map_or}
use Rattle.data_packet.specs.declared.packet.Packet.{Packet}
use Rattle.switch_model.specs.Forwarding.{passes_inbound, passes_outbound}
use Rattle.switch_model.specs.SwitchState.{SwitchState}
use Rattle.switch_model.specs.declared.fate.Fate.{Fate}
use Rattle.switch_model.specs.declared.fate.Fate.TheVariants.{KeptOut, OverTop, NoPort, Taken, KeptIn, Leaves}
use Rattle.switch_model.specs.declared.switch_port.SwitchPort.{SwitchPort}

-- by the entry for its LID: no port, the switch itself, or a port that lets it out or not
abbrev pub fate_by : List SwitchPort → ℕ → ℕ → Fate
fate_by ports p_key entry =
    if not (nat_lt entry (length ports)) then NoPort entry
    else (if entry == 0 then Taken
    else (if passes_outbound ports entry p_key then Leaves entry
    else KeptIn entry))

-- a table has an entry for each LID up to LinearFDBTop
unfoldable pub fate : SwitchState → ℕ → Packet → Fate
fate held in_port packet =
    if not (passes_inbound held.ports in_port packet.p_key) then KeptOut
    else (if not (nat_le packet.dlid held.info.linear_fdb_top) then OverTop
    else option_map_or (fate_by held.ports packet.p_key) (slice_get held.linear packet.dlid) OverTop)

-- the port by which it leaves, if it does
abbrev pub way_out : Fate → Option ℕ
way_out KeptOut = None
way_out OverTop = None
way_out (NoPort entry) = None
way_out Taken = None
way_out (KeptIn out) = None
way_out (Leaves out) = Some out
