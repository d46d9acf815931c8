-- What is so of every topology that is given, in the words of the discovery.
use Rattle.std.specs.Prelude.{ℕ, Bool, ◌≡◌, ◌≤◌, true, false, List, [], slice_get, Option, Some, Ok}
use Rattle.fabric_parts.specs.declared.cable.Cable.{Cable}
use Rattle.fabric_parts.specs.declared.cable.PortRef.{PortRef}
use Rattle.fabric_parts.specs.Cable.{is_cabled}
use Rattle.fabric_parts.specs.declared.limits.Limits.TheVariants.{Large}
use Rattle.netdiscover_file.specs.declared.port.PortLine.{PortLine}
use Rattle.netdiscover_file.specs.Agreement.{is_one_cable}
use Rattle.netdiscover_file.specs.Discovery.{DiscoveryState}
use Rattle.netdiscover_file.specs.Sound.{IsSound}
use Rattle.topo_file.specs.declared.node.Node.{Node}
use Rattle.topo_file.specs.Node.{is_switch, port_guid}
use Rattle.topo_file.specs.Topology.{TopologyState, topology_within}
use Rattle.topology_import.specs.declared.planned.Planned.{Planned}
use Rattle.topology_import.specs.Agreement.{agrees, are_as_planned, is_between, is_end_port}
use Rattle.topology_import.specs.Ends.{counted, ends}
use Rattle.topology_import.specs.Import.{asked_for}
use Rattle.topology_import.specs.Text.{planned_nodes}

-- it stands somewhere in the list
abbrev pub Among : {X : Type 0} → List X → X → Type 0
Among xs x = (place : ℕ) × (slice_get xs place ≡ Some x)

-- the end port of this GUID is there, and it has a cable
abbrev pub HasEndPort : TopologyState → ℕ → Type 0
HasEndPort plan guid = (port : PortRef) × (is_end_port plan.nodes port guid ≡ true) × (is_cabled plan.cables port ≡ true)

-- some line that counts is of the end port of this GUID
abbrev pub HasLine : DiscoveryState → ℕ → Type 0
HasLine discovery guid = (line : PortLine) × Among (counted discovery) line × (line.guid ≡ Some guid)

-- both lines are of the discovery, and each leads to the port of the other
pub record LeadToOneAnother (discovery : DiscoveryState) (line other : PortLine) : Type 0 where
  pub counts : Among (counted discovery) line
  pub there : Among discovery.ports other
  pub cable : is_one_cable discovery.nodes line other ≡ true

-- some cable joins the ports of both lines
abbrev pub AreJoined : DiscoveryState → TopologyState → PortLine → PortLine → Type 0
AreJoined discovery plan line other = (cable : Cable) × Among plan.cables cable × (is_between discovery plan.nodes cable line other ≡ true)

-- the cable joins the ports of two lines that lead to one another
abbrev pub IsOfTwoLines : DiscoveryState → TopologyState → Cable → Type 0
IsOfTwoLines discovery plan cable =
    (line : PortLine) × (other : PortLine) × LeadToOneAnother discovery line other × (is_between discovery plan.nodes cable line other ≡ true)

-- the topology is that of the discovery: each port of a channel adapter that counts is there under its own GUID, with a
-- cable, and adapters have no other ports; ports are joined where their lines lead to one another, and nowhere else; the
-- subnet manager is on the port of that GUID; and no switch is named as a root
pub record IsTopologyOf (discovery : DiscoveryState) (manager : ℕ) (plan : TopologyState) : Type 0 where
  pub end_ports : (line : PortLine) (guid : ℕ) → Among (counted discovery) line → line.guid ≡ Some guid → HasEndPort plan guid
  pub only_ends : (place number : ℕ) (node : Node) → slice_get plan.nodes place ≡ Some node → is_switch node ≡ false
      → 1 ≤ number → number ≤ node.ports → HasLine discovery (port_guid node number)
  pub joined : (line other : PortLine) → LeadToOneAnother discovery line other → AreJoined discovery plan line other
  pub no_others : (cable : Cable) → Among plan.cables cable → IsOfTwoLines discovery plan cable
  pub manager_port : is_end_port plan.nodes plan.sm manager ≡ true
  pub no_roots : plan.roots ≡ []

-- a text that is given is read as such a topology, with the nodes that were meant
pub record IsGiven (discovery : DiscoveryState) (manager : Option ℕ) (text : List ℕ) : Type 0 where
  pub guid : ℕ
  pub asked : asked_for manager discovery.initiator ≡ Some guid
  pub plan : TopologyState
  pub read : topology_within Large text ≡ Ok plan
  pub nodes : are_as_planned (planned_nodes discovery) plan.nodes ≡ true
  pub is_of : IsTopologyOf discovery guid plan

-- if this test lets a topology pass, it is that of the discovery
abbrev pub ReportsOthers : (DiscoveryState → List Planned → ℕ → TopologyState → Bool) → Type 0
ReportsOthers test =
    (discovery : DiscoveryState) (planned : List Planned) (manager : ℕ) (plan : TopologyState) → IsSound discovery
    → test discovery planned manager plan ≡ true → IsTopologyOf discovery manager plan

abbrev pub OthersAreReported : Type 0
OthersAreReported = ReportsOthers (λ discovery. agrees discovery (ends discovery))
