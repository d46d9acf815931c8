-- The nodes of the topology, before they have names.
use Rattle.std.specs.Prelude.{ℕ, ◌≡◌, nat_eq, Bool, ◌-◌, ◌==◌, ◌&&◌, ◌||◌, List, [], ◌∷◌, ◌++◌, map, flat_map, find, length, slice_get, Option, option_map, unwrap_or, if◌then◌else◌}
use Rattle.std.specs.List.{list_any, range_with_len}
use Rattle.std.specs.Option.{option_map_or}
use Rattle.step_results.specs.AtLine.{AtLine}
use Rattle.fabric_parts.specs.declared.node_type.NodeType.TheVariants as node_type
use Rattle.netdiscover_file.specs.declared.node.Node.{Node}
use Rattle.netdiscover_file.specs.declared.port.PortLine.{PortLine}
use Rattle.netdiscover_file.specs.Discovery.{DiscoveryState}
use Rattle.netdiscover_file.specs.Kind.{is_switch}
use Rattle.topology_import.specs.declared.nodes.Meant.{Meant}
use Rattle.topology_import.specs.declared.fault.ImportCause.{ImportCause}
use Rattle.topology_import.specs.declared.fault.ImportCause.TheVariants.{GuidTaken}
use Rattle.topology_import.specs.Ends.{ends, firsts, guid_of, ports_from}

-- ---- switches, in the order of the discovery
-- the GUID of its port 0, or if that is not reported its node's
abbrev pub switch_guid : Node → ℕ
switch_guid node = unwrap_or node.port_guid node.id.guid

abbrev pub switch_guid_at : List Node → ℕ → ℕ
switch_guid_at nodes place = option_map_or switch_guid (slice_get nodes place) 0

abbrev pub switch_meant : ℕ → Node → Meant
switch_meant place node = record { node_type = node_type.Switch; guid = switch_guid node; ports = node.ports; node = place; line = node.line }

abbrev pub switch_if_one : ℕ → Node → List Meant
switch_if_one place node = if is_switch node.id.kind then switch_meant place node ∷ [] else []

abbrev pub switch_at : List Node → ℕ → List Meant
switch_at nodes place = option_map_or (switch_if_one place) (slice_get nodes place) []

abbrev pub switches : List Node → List Meant
switches nodes = flat_map (switch_at nodes) (range_with_len 0 (length nodes))

-- ---- adapters, in the order of the lines of their first ports: the GUID is one less than the first port's
abbrev pub adapter_guid : PortLine → ℕ
adapter_guid first = guid_of first - 1

abbrev pub adapter_meant : List PortLine → PortLine → Meant
adapter_meant ends first = record {
  node_type = node_type.ChannelAdapter;
  guid = adapter_guid first;
  ports = ports_from ends (guid_of first);
  node = first.port.node;
  line = first.line;
}

abbrev pub adapters : List PortLine → List Meant
adapters ends = map (adapter_meant ends) (firsts ends)

abbrev pub nodes_meant : DiscoveryState → List Meant
nodes_meant discovery = switches discovery.nodes ++ adapters (ends discovery)

-- ---- the GUID of an adapter may not be 0, nor that of a switch or of its port 0
abbrev pub has_guid : ℕ → Node → Bool
has_guid guid node = is_switch node.id.kind && ((guid == node.id.guid) || (guid == switch_guid node))

-- these keys are the GUIDs of the switches among the nodes, and no others
abbrev pub KnowsSwitches : List ℕ → List Node → Type 0
KnowsSwitches keys nodes = (guid : ℕ) → list_any (nat_eq guid) keys ≡ list_any (has_guid guid) nodes

-- what a second set has beside the first: the GUIDs of this node, if it is a switch
abbrev pub KnowsSwitch : List ℕ → Node → List ℕ → Type 0
KnowsSwitch before node after = (guid : ℕ) → list_any (nat_eq guid) after ≡ (list_any (nat_eq guid) before || has_guid guid node)

abbrev pub is_taken : List Node → ℕ → Bool
is_taken nodes guid = (guid == 0) || list_any (has_guid guid) nodes

abbrev pub first_taken : List Node → List PortLine → Option PortLine
first_taken nodes firsts = find (λ first. is_taken nodes (adapter_guid first)) firsts

abbrev pub taken_fault : PortLine → AtLine ImportCause
taken_fault first = record { line = first.line; cause = GuidTaken (guid_of first) (adapter_guid first) }

abbrev pub guid_fault : List Node → List PortLine → Option (AtLine ImportCause)
guid_fault nodes firsts = option_map taken_fault (first_taken nodes firsts)
