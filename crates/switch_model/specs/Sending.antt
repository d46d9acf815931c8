-- Out of which ports a switch sends a data packet: one to a multicast LID by its masks, any other by the entry of its LID.
use Rattle.std.specs.Prelude.{ℕ, Bool, false, ◌==◌, if◌then◌else◌}
use Rattle.std.specs.Option.{option_map_or}
use Rattle.data_packet.specs.declared.packet.Packet.{Packet}
use Rattle.fabric_parts.specs.Lid.{is_multicast}
use Rattle.switch_model.specs.Forwarding.{out_port}
use Rattle.switch_model.specs.Multicast.{copies_out}
use Rattle.switch_model.specs.SwitchState.{SwitchState}

-- the switch sends a packet that came in at this port out of that one
abbrev pub sends_out : SwitchState → ℕ → Packet → ℕ → Bool
sends_out held in_port packet out =
    if is_multicast packet.dlid
    then copies_out held in_port packet out
    else option_map_or (λ port. port == out) (out_port held in_port packet) false
