-- The way of one unicast packet through a fabric, port by port, and why it ends (IBA volume 1, chapter 14): by what the
-- switches and the channel adapters hold, whoever wrote it.
use Rattle.std.specs.Prelude.{ℕ, zero, suc, ◌+◌, ◌*◌, is_some, if◌then◌else◌, List, [], ◌∷◌, ◌++◌, length, slice_get, Option, None}
use Rattle.std.specs.List.{list_any}
use Rattle.std.specs.Option.{option_map_or}
use Rattle.data_packet.specs.declared.packet.Packet.{Packet}
use Rattle.fabric_parts.specs.Cable.{far_end, is_same_port}
use Rattle.fabric_parts.specs.declared.cable.Cable.{Cable}
use Rattle.fabric_parts.specs.declared.cable.PortRef.{PortRef}
use Rattle.packet_trace.specs.declared.turn.Step.{Step}
use Rattle.packet_trace.specs.declared.turn.Turn.{Turn}
use Rattle.packet_trace.specs.declared.turn.Turn.TheVariants.{Again, DropsInbound, DropsTop, DropsEntry, Takes, DropsOutbound, NoCable, GoesOut, Accepts, DropsKey}
use Rattle.port_model.specs.AdapterState.{AdapterState}
use Rattle.port_model.specs.Packets.{accepts_packet}
use Rattle.smp_wire.specs.FabricState.{FabricState, adapter_port}
use Rattle.smp_wire.specs.declared.node.Node.{Node}
use Rattle.smp_wire.specs.declared.node.Node.TheVariants.{Switch, Adapter}
use Rattle.switch_model.specs.Fate.{fate}
use Rattle.switch_model.specs.declared.fate.Fate.{Fate}
use Rattle.switch_model.specs.declared.fate.Fate.TheVariants.{KeptOut, OverTop, NoPort, Taken, KeptIn, Leaves}

-- ---- at one port
-- a packet goes out where a cable is
abbrev pub leaves_by : List Cable → PortRef → ℕ → Turn
leaves_by cables here out = if is_some (far_end cables (record { node = here.node; port = out })) then GoesOut out else NoCable out

-- at a switch the first reason counts for which a packet does not leave
abbrev pub turn_of_fate : List Cable → PortRef → Fate → Turn
turn_of_fate cables here KeptOut = DropsInbound
turn_of_fate cables here OverTop = DropsTop
turn_of_fate cables here (NoPort entry) = DropsEntry entry
turn_of_fate cables here Taken = Takes
turn_of_fate cables here (KeptIn out) = DropsOutbound out
turn_of_fate cables here (Leaves out) = leaves_by cables here out

-- a channel adapter's port takes what its keys match
abbrev pub turn_by : Packet → AdapterState → Turn
turn_by packet port = if accepts_packet port packet then Accepts else DropsKey

-- if there is no such port, none takes it
abbrev pub turn_in : List Cable → Packet → PortRef → Node → Turn
turn_in cables packet here (Switch held) = turn_of_fate cables here (fate held here.port packet)
turn_in cables packet here (Adapter ports) = option_map_or (turn_by packet) (adapter_port ports here.port) DropsKey

unfoldable pub turn_at : FabricState → Packet → PortRef → Turn
turn_at fabric packet here = option_map_or (turn_in fabric.cables packet here) (slice_get fabric.nodes here.node) DropsKey

-- ---- from port to port
abbrev pub next_after : List Cable → PortRef → Turn → Option PortRef
next_after cables here (GoesOut out) = far_end cables (record { node = here.node; port = out })
next_after cables here _ = None

-- after these steps: if it has come in before, it would go on as it went on then
abbrev pub turn_after : FabricState → Packet → List Step → PortRef → Turn
turn_after fabric packet before here = if list_any (λ step. is_same_port step.at here) before then Again else turn_at fabric packet here

abbrev pub step : PortRef → Turn → Step
step at turn = record { at = at; turn = turn }

-- so many steps more at most, from here and after those
abbrev pub steps_from : FabricState → Packet → ℕ → List Step → PortRef → List Step
steps_from fabric packet zero before here = []
steps_from fabric packet (suc more) before here =
    let now = step here (turn_after fabric packet before here) in
    now ∷ option_map_or (steps_from fabric packet more (before ++ now ∷ [])) (next_after fabric.cables here now.turn) []

-- all steps of a packet that comes in at that port: it comes in at ends of cables alone, and at each once before it comes to
-- one again
abbrev pub way_of : FabricState → Packet → PortRef → List Step
way_of fabric packet first = steps_from fabric packet (2 * length fabric.cables + 1) [] first
