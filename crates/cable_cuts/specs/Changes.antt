-- The entries of linear forwarding tables that differ if one fabric takes the place of another.
use Rattle.std.specs.Prelude.{ℕ, ◌==◌, Bool, false, if◌then◌else◌, List, [], ◌∷◌, find, get_or, unwrap_or}
use Rattle.std.specs.List.{flat_map}
use Rattle.std.specs.Option.{option_map_or}
use Rattle.fabric_parts.specs.NodeType.{is_switch_type}
use Rattle.updn_routes.specs.NextHops.{hop_by}
use Rattle.smp_wire.specs.FabricState.{FabricState}
use Rattle.smp_wire.specs.declared.node.Node.{Node}
use Rattle.smp_wire.specs.declared.node.Node.TheVariants.{Switch, Adapter}
use Rattle.subnet_model.specs.declared.subnet_port.SubnetPort.{SubnetPort}
use Rattle.updn_routes.specs.Subnet.{RoutesState}
use Rattle.cable_cuts.specs.declared.changes.Change.{Change}

-- ---- tables, by the GUID of a switch and a LID: the port by which the switch sends what is for the LID, and 255 if there is none
abbrev pub Tables : Type 0
Tables = ℕ → ℕ → ℕ

-- those that a fabric holds
abbrev pub is_switch_of : ℕ → Node → Bool
is_switch_of guid (Switch held) = held.node_guid == guid
is_switch_of guid (Adapter ports) = false

abbrev pub linear_in : Node → List ℕ
linear_in (Switch held) = held.linear
linear_in (Adapter ports) = []

abbrev pub entry_in : FabricState → Tables
entry_in fabric guid lid = get_or (option_map_or linear_in (find (is_switch_of guid) fabric.nodes) []) lid 255

-- and those of routes
abbrev pub entry_by : RoutesState → Tables
entry_by routes guid lid = unwrap_or (hop_by routes guid lid) 255

-- ---- what differs
-- at a switch for the LID of an end port
abbrev pub change_at : Tables → Tables → SubnetPort → SubnetPort → List Change
change_at one other switch port =
    if one switch.guid port.lid == other switch.guid port.lid then []
    else record { switch = switch.lid; lid = port.lid; was = one switch.guid port.lid; becomes = other switch.guid port.lid } ∷ []

-- at a switch for all of them
abbrev pub changes_at : List SubnetPort → Tables → Tables → SubnetPort → List Change
changes_at ports one other switch =
    if is_switch_type switch.node_type then flat_map (change_at one other switch) ports else []

-- at all switches, in the order of the list
abbrev pub changes : List SubnetPort → Tables → Tables → List Change
changes ports one other = flat_map (changes_at ports one other) ports
