-- What is so of every topology that was read, whatever its text.
use Rattle.std.specs.Prelude.{ℕ, ◌≡◌, Bool, true, not, ◌&&◌, ◌||◌, nat_eq, nat_le, List, Option, Some, None, All}
use Rattle.std.specs.List.{list_all, IsDistinct}
use Rattle.std.specs.Str.{bytes_eq}
use Rattle.text_words.specs.Words.{is_name}
use Rattle.fabric_parts.specs.declared.cable.Cable.{Cable}
use Rattle.fabric_parts.specs.declared.cable.PortRef.{PortRef}
use Rattle.fabric_parts.specs.Cable.{ends_at, is_cabled}
use Rattle.fabric_parts.specs.Limits.{most_ports_within}
use Rattle.fabric_parts.specs.declared.limits.Limits.{Limits}
use Rattle.fabric_parts.specs.declared.limits.Limits.TheVariants.{Simulated}
use Rattle.topo_file.specs.declared.node.Node.{Node}
use Rattle.topo_file.specs.declared.draft.Manager.{Manager}
use Rattle.topo_file.specs.Node.{HasGuids, IsWithin, is_switch_at, ports_at, shares_guid}
use Rattle.topo_file.specs.Cable.{may_join}
use Rattle.topo_file.specs.Connectivity.{AllJoined}
use Rattle.topo_file.specs.Topology.{TopologyState, DraftState}

-- the node there has this port
abbrev pub is_port : List Node → PortRef → Bool
is_port nodes port = nat_le 1 port.port && nat_le port.port (ports_at nodes port.node)

-- the port is one of an adapter, as that of the subnet manager is
abbrev pub is_manager_port : List Node → PortRef → Bool
is_manager_port nodes port = not (is_switch_at nodes port.node) && is_port nodes port

-- both ends of the cable are ports of nodes
abbrev pub ends_at_ports : List Node → Cable → Bool
ends_at_ports nodes cable = is_port nodes cable.first && is_port nodes cable.second

-- an SM port, if there is one, is a port of an adapter
abbrev pub on_adapter : List Node → Option Manager → Bool
on_adapter nodes None = true
on_adapter nodes (Some manager) = is_manager_port nodes manager.port

-- what is counted of a node is in its range: its GUID is not 0, and it has at least one port and no more than the limits say
abbrev pub is_sized_within : Limits → Node → Bool
is_sized_within limits node = nat_le 1 node.guid && (nat_le 1 node.ports && nat_le node.ports (most_ports_within limits node.node_type))

-- of a simulated fabric a switch has 1 to 36 ports, an adapter 1 to 8
abbrev pub is_sized : Node → Bool
is_sized node = is_sized_within Simulated node

-- what stands as its name is a name
abbrev pub is_named : Node → Bool
is_named node = is_name node.name

-- both nodes have the same name
abbrev pub shares_name : Node → Node → Bool
shares_name a b = bytes_eq a.name b.name

-- the cable joins two different switches, or a switch and an adapter
abbrev pub joins_right : List Node → Cable → Bool
joins_right nodes cable = may_join nodes cable.first.node cable.second.node

-- some port is an end of both cables
abbrev pub shares_port : Cable → Cable → Bool
shares_port a b = ends_at a.first b || ends_at a.second b

-- of the nodes and cables that lines declare: each is in range, and no two nodes share a name or a GUID, no two
-- cables a port
pub record AreSoundWithin (within : Limits) (nodes : List Node) (cables : List Cable) : Type 0 where
  pub names : list_all is_named nodes ≡ true
  pub own_names : IsDistinct shares_name nodes
  pub guids : All HasGuids nodes
  pub own_guids : IsDistinct shares_guid nodes
  pub sizes : list_all (is_sized_within within) nodes ≡ true
  pub limits : IsWithin within nodes
  pub ends : list_all (ends_at_ports nodes) cables ≡ true
  pub joins : list_all (joins_right nodes) cables ≡ true
  pub own_ports : IsDistinct shares_port cables

abbrev pub AreSound : List Node → List Cable → Type 0
AreSound nodes cables = AreSoundWithin Simulated nodes cables

-- each root is the place of a switch, and no two are the same
pub record AreRoots (nodes : List Node) (roots : List ℕ) : Type 0 where
  pub switches : list_all (is_switch_at nodes) roots ≡ true
  pub own : IsDistinct nat_eq roots

-- what stands after each line
pub record IsSoundSoFar (so_far : DraftState) : Type 0 where
  pub lines : AreSoundWithin so_far.limits so_far.nodes so_far.cables
  pub roots : AreRoots so_far.nodes so_far.roots
  pub manager : on_adapter so_far.nodes so_far.manager ≡ true

-- what stands of the whole
pub record IsSoundWithin (limits : Limits) (plan : TopologyState) : Type 0 where
  pub lines : AreSoundWithin limits plan.nodes plan.cables
  pub connected : AllJoined plan.nodes plan.cables
  pub roots : AreRoots plan.nodes plan.roots
  pub manager_port : is_manager_port plan.nodes plan.sm ≡ true
  pub manager_cabled : is_cabled plan.cables plan.sm ≡ true

-- and of one whose fabric can be simulated
abbrev pub IsSound : TopologyState → Type 0
IsSound plan = IsSoundWithin Simulated plan
