-- What holds of every script that is accepted.
use Rattle.std.specs.Prelude.{ℕ, ◌≡◌, true, false, List, Some, Ok}
use Rattle.std.specs.List.{All}
use Rattle.fabric_parts.specs.Cable.{far_end, is_cabled, is_same_port}
use Rattle.fabric_parts.specs.declared.cable.Cable.{Cable}
use Rattle.fabric_parts.specs.declared.cable.PortRef.{PortRef}
use Rattle.subnet_model.specs.declared.command.Command.{Command}
use Rattle.topo_file.specs.Node.{is_switch_at, port_guid_at}
use Rattle.topo_file.specs.Sound.{is_port}
use Rattle.topo_file.specs.Topology.{TopologyState}
use Rattle.script_lines.specs.Script.{commands_in}

-- a port that may send and ask: one of a channel adapter that has a cable and is not the subnet manager's
pub record IsSendingPort (plan : TopologyState) (guid : ℕ) : Type 0 where
  pub at : PortRef
  pub there : is_port plan.nodes at ≡ true
  pub adapter : is_switch_at plan.nodes at.node ≡ false
  pub cabled : is_cabled plan.cables at ≡ true
  pub other : is_same_port at plan.sm ≡ false
  pub guid_is : port_guid_at plan.nodes at ≡ guid

-- a port of a switch, not its port 0
pub record IsSwitchEnd (plan : TopologyState) (at : PortRef) : Type 0 where
  pub there : is_port plan.nodes at ≡ true
  pub of_switch : is_switch_at plan.nodes at.node ≡ true

-- a cable of the topology, between ports of switches; its ends stand in either order
pub record IsSwitchCable (plan : TopologyState) (cable : Cable) : Type 0 where
  pub first : IsSwitchEnd plan cable.first
  pub second : IsSwitchEnd plan cable.second
  pub joined : far_end plan.cables cable.first ≡ Some cable.second

-- the port or the cable that a command names is there
abbrev pub NamesWhatIsThere : TopologyState → Command → Type 0
NamesWhatIsThere plan (Command.Send command) = IsSendingPort plan command.port_guid
NamesWhatIsThere plan (Command.Ask command) = IsSendingPort plan command.port_guid
NamesWhatIsThere plan (Command.Cable command) = IsSwitchCable plan command.cable

-- so it is with each command that a script gives
abbrev pub CommandsNameWhatIsThere : Type 0
CommandsNameWhatIsThere =
    (plan : TopologyState) (script : List ℕ) (commands : List Command) → commands_in plan script ≡ Ok commands
    → All (NamesWhatIsThere plan) commands
