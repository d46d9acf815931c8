-- The port that a command names: which ports may send and ask.
use Rattle.std.specs.Prelude.{ℕ, not, List, Result, Ok, Err, if◌then◌else◌}
use Rattle.fabric_parts.specs.declared.cable.PortRef.{PortRef}
use Rattle.fabric_parts.specs.Cable.{is_cabled, is_same_port}
use Rattle.step_results.specs.Steps.{◌>>=◌}
use Rattle.topo_file.specs.Node.{is_switch_at, port_guid_at}
use Rattle.topo_file.specs.Topology.{TopologyState}
use Rattle.script_lines.specs.NamedPort.{named_place}
use Rattle.script_lines.specs.declared.script_cause.ScriptCause.{ScriptCause}
use Rattle.script_lines.specs.declared.script_cause.ScriptCause.TheVariants.{UnknownPort, ManagerPort, UncabledPort}

-- an adapter's port that is not the subnet manager's and has a cable
abbrev pub sender_at : TopologyState → PortRef → Result ℕ ScriptCause
sender_at plan at =
    if is_switch_at plan.nodes at.node then Err UnknownPort
    else if is_same_port at plan.sm then Err ManagerPort
    else if not (is_cabled plan.cables at) then Err UncabledPort
    else Ok (port_guid_at plan.nodes at)

unfoldable pub sender_of : TopologyState → List ℕ → Result ℕ ScriptCause
sender_of plan word = named_place plan word >>= λ at. sender_at plan at
