-- Wrong rules for what an audit takes of a discovery and for levels, and the law that each breaks.
use Rattle.std.specs.Prelude.{ℕ, ◌+◌, ◌==◌, nat_lt, List, [], ◌∷◌, ◌++◌, codes, filter, flat_map, take, if◌then◌else◌, Option, Some, None}
use Rattle.std.specs.Option.{option_map_or}
use Rattle.fabric_parts.specs.Cable.{port}
use Rattle.fabric_parts.specs.declared.cable.Cable.{Cable}
use Rattle.fabric_parts.specs.declared.node_type.NodeType.{NodeType}
use Rattle.fabric_parts.specs.declared.node_type.NodeType.TheVariants.{ChannelAdapter, Switch}
use Rattle.netdiscover_file.specs.declared.ends.FarEnd.{FarEnd}
use Rattle.netdiscover_file.specs.declared.kind.NodeKind.{NodeKind}
use Rattle.netdiscover_file.specs.declared.kind.NodeKind.TheVariants as kinds
use Rattle.netdiscover_file.specs.declared.node.Node.{Node as FoundNode}
use Rattle.netdiscover_file.specs.declared.port.PortLine.{PortLine}
use Rattle.netdiscover_file.specs.Agreement.{far_line}
use Rattle.netdiscover_file.specs.Discovery.{DiscoveryState}
use Rattle.topo_file.specs.declared.node.Node.{Node}
use Rattle.topo_file.specs.Connectivity.{switches}
use Rattle.audit_plan.specs.declared.ends.LidGuid.{LidGuid}
use Rattle.audit_plan.specs.Laws.{FindsFarthest, MeasuresLevels, TakesTheCables, TakesTheLids}
use Rattle.audit_plan.specs.Levels.{level_of}
use Rattle.audit_plan.specs.Plan.{PlanState, joins_switch, line_lid, plan_found, switch_lid}
use Rattle.audit_plan.specs.Tops.{top_of, top_switches}

-- ---- two ports of one node have no cable
abbrev pub between_nodes : PortLine → PortLine → List Cable
between_nodes line other = if nat_lt line.port.node other.port.node then record { first = line.port; second = other.port } ∷ [] else []

abbrev pub cables_between_nodes : DiscoveryState → List Cable
cables_between_nodes found = flat_map (λ line. option_map_or (between_nodes line) (far_line found.nodes found.ports line.far) []) found.ports

abbrev pub without_plugs : DiscoveryState → PlanState
without_plugs found = record (plan_found found) { cables = filter (joins_switch found.nodes) (cables_between_nodes found) }

abbrev pub ANodeMayBeJoinedToItself : Type 0
ANodeMayBeJoinedToItself = TakesTheCables without_plugs → ⊥

-- ---- the list of cables that join no switch is empty
abbrev pub with_all_cables : DiscoveryState → PlanState
with_all_cables found = record (plan_found found) { cables = (plan_found found).cables ++ (plan_found found).apart; apart = [] }

abbrev pub AdaptersAreJoinedApart : Type 0
AdaptersAreJoinedApart = TakesTheCables with_all_cables → ⊥

-- a switch with a cable between its two ports, and two adapters with a cable between them
abbrev pub found_at : NodeKind → ℕ → FoundNode
found_at kind guid = record { id = record { kind = kind; guid = guid }; ports = 2; name = []; lid = None; port_guid = None; line = 1 }

abbrev pub leads : ℕ → ℕ → Option ℕ → FarEnd → PortLine
leads place number guid far = record { port = port place number; guid = guid; lid = guid; far = far; line = 1 }

abbrev pub far_at : NodeKind → ℕ → ℕ → Option ℕ → FarEnd
far_at kind guid number own = record { node = record { kind = kind; guid = guid }; port = number; guid = own }

abbrev pub a_plug : DiscoveryState
a_plug = record {
  nodes = found_at kinds.Switch 16 ∷ [];
  ports = leads 0 1 None (far_at kinds.Switch 16 2 None) ∷ leads 0 2 None (far_at kinds.Switch 16 1 None) ∷ [];
  initiator = None;
}

abbrev pub two_adapters : DiscoveryState
two_adapters = record {
  nodes = found_at kinds.ChannelAdapter 16 ∷ found_at kinds.ChannelAdapter 32 ∷ [];
  ports = leads 0 1 (Some 17) (far_at kinds.ChannelAdapter 32 1 (Some 33)) ∷ leads 1 1 (Some 33) (far_at kinds.ChannelAdapter 16 1 (Some 17)) ∷ [];
  initiator = None;
}

-- ---- a LID counts that nobody was given
abbrev pub any_lid : PortLine → List LidGuid
any_lid line = option_map_or (λ guid. option_map_or (λ lid. (record { lid = lid; guid = guid }) ∷ []) line.lid []) line.guid []

abbrev pub with_any_lids : DiscoveryState → List LidGuid
with_any_lids found = flat_map switch_lid found.nodes ++ flat_map any_lid found.ports

abbrev pub NobodyHasLid0 : Type 0
NobodyHasLid0 = TakesTheLids with_any_lids → ⊥

abbrev pub an_adapter_without_lid : DiscoveryState
an_adapter_without_lid = record two_adapters { ports = record (leads 0 1 (Some 17) (far_at kinds.ChannelAdapter 32 1 (Some 33))) { lid = Some 0 } ∷ [] }

-- ---- of switches none counts
abbrev pub without_switches : DiscoveryState → List LidGuid
without_switches found = flat_map line_lid found.ports

abbrev pub SwitchesHaveLids : Type 0
SwitchesHaveLids = TakesTheLids without_switches → ⊥

abbrev pub a_switch_with_lid : DiscoveryState
a_switch_with_lid = record a_plug { nodes = record (found_at kinds.Switch 16) { lid = Some 5 } ∷ [] }

-- ---- a level counts the switches of a way, and not its links
abbrev pub counted_from_1 : PlanState → ℕ → ℕ
counted_from_1 plan place = level_of plan place + 1

abbrev pub LevelsBeginAt0 : Type 0
LevelsBeginAt0 = MeasuresLevels counted_from_1 → ⊥

-- ---- all switches have one level
abbrev pub all_leaves : PlanState → ℕ → ℕ
all_leaves plan place = 0

abbrev pub NotAllAreLeaves : Type 0
NotAllAreLeaves = MeasuresLevels all_leaves → ⊥

-- ---- the top switches are those of level 1
abbrev pub of_level_1 : PlanState → List ℕ
of_level_1 plan = filter (λ place. level_of plan place == 1) (switches plan.nodes)

abbrev pub TopsAreNotOfLevel1 : Type 0
TopsAreNotOfLevel1 = FindsFarthest of_level_1 → ⊥

-- ---- or those of the greatest level, also if that is 0
abbrev pub of_top_level : PlanState → List ℕ
of_top_level plan = filter (λ place. level_of plan place == top_of (level_of plan) (switches plan.nodes)) (switches plan.nodes)

abbrev pub LeavesAreNoTops : Type 0
LeavesAreNoTops = FindsFarthest of_top_level → ⊥

-- ---- or the first of them alone
abbrev pub first_top : PlanState → List ℕ
first_top plan = take 1 (top_switches plan)

abbrev pub AllTopsCount : Type 0
AllTopsCount = FindsFarthest first_top → ⊥

-- ---- switches A, B and C, and a host h, with these cables
abbrev pub node : List ℕ → NodeType → ℕ → Node
node name of guid = record { name = name; node_type = of; guid = guid; ports = 3 }

abbrev pub with_cables : List Cable → PlanState
with_cables cables = record {
  nodes = node (codes "A") Switch 16 ∷ node (codes "B") Switch 32 ∷ node (codes "C") Switch 48 ∷ node (codes "h") ChannelAdapter 256 ∷ [];
  cables = cables;
  apart = [];
  ends = [];
  aggregation = [];
  lids = [];
}

abbrev pub cable : (place number there far : ℕ) → Cable
cable place number there far = record { first = port place number; second = port there far }

-- no host is attached to any switch
abbrev pub no_hosts : PlanState
no_hosts = with_cables (cable 0 2 1 2 ∷ [])

-- h is attached to A/1
abbrev pub one_leaf : PlanState
one_leaf = with_cables (cable 0 1 3 1 ∷ [])

-- and cables lead from A/2 to B/1 and from B/2 to C/1
abbrev pub three_levels : PlanState
three_levels = with_cables (cable 0 1 3 1 ∷ cable 0 2 1 1 ∷ cable 1 2 2 1 ∷ [])

-- or from A/2 to B/1 and from A/3 to C/1
abbrev pub two_tops : PlanState
two_tops = with_cables (cable 0 1 3 1 ∷ cable 0 2 1 1 ∷ cable 0 3 2 1 ∷ [])
