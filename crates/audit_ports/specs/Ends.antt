-- The end ports of a discovery, and the ports of the topology with the same GUIDs.
use Rattle.std.specs.Prelude.{ℕ, true, false, ◌==◌, List, [], ◌∷◌, ◌++◌, flat_map, fold, position, slice_get, if◌then◌else◌, Option, Some, None, is_some, option_map, unwrap_or}
use Rattle.std.specs.Option.{option_and_then, option_map_or}
use Rattle.fabric_parts.specs.declared.cable.PortRef.{PortRef}
use Rattle.netdiscover_file.specs.declared.node.Node.{Node as FoundNode}
use Rattle.netdiscover_file.specs.declared.port.PortLine.{PortLine}
use Rattle.netdiscover_file.specs.Discovery.{DiscoveryState}
use Rattle.netdiscover_file.specs.Kind.{is_switch as is_switch_kind}
use Rattle.topo_file.specs.declared.node.Node.{Node}
use Rattle.audit_ports.specs.declared.ends.End.{End}
use Rattle.audit_plan.specs.declared.ends.EndGuid.{EndGuid}
use Rattle.audit_plan.specs.Plan.{ends_of as port_ends}

-- ---- the ports of the topology, by their GUIDs
abbrev pub place_of : ℕ → List EndGuid → Option ℕ
place_of guid ports = position (λ port. guid == port.guid) ports

abbrev pub named : ℕ → List EndGuid → Option PortRef
named guid ports = option_map (λ port. port.port) (option_and_then (λ place. slice_get ports place) (place_of guid ports))

-- of two ports with one GUID the first counts; no topology that was read has such
unfoldable pub with_port : List EndGuid → EndGuid → List EndGuid
with_port ports port = if is_some (place_of port.guid ports) then ports else ports ++ port ∷ []

abbrev pub index_of : List Node → List EndGuid
index_of nodes = fold with_port [] (port_ends nodes)

-- ---- the end ports of the discovery: port 0 of each switch that has a LID, and each port with a GUID and a LID of its own
-- the GUID of a switch's port 0, or if that is not reported its node's
abbrev pub switch_guid : FoundNode → ℕ
switch_guid node = unwrap_or node.port_guid node.id.guid

abbrev pub switch_with : FoundNode → Option ℕ → List End
switch_with node (Some lid) =
    record { guid = switch_guid node; node_guid = node.id.guid; lid = lid; is_switch = true; number = 0; far = None } ∷ []
switch_with node None = []

abbrev pub switch_end : FoundNode → List End
switch_end node = if is_switch_kind node.id.kind then switch_with node node.lid else []

abbrev pub line_with : (node_guid : ℕ) → PortLine → Option ℕ → Option ℕ → List End
line_with node_guid line (Some guid) (Some lid) =
    record { guid = guid; node_guid = node_guid; lid = lid; is_switch = false; number = line.port.port; far = Some line.far } ∷ []
line_with node_guid line _ _ = []

abbrev pub node_guid_at : List FoundNode → ℕ → ℕ
node_guid_at nodes place = option_map_or (λ node. node.id.guid) (slice_get nodes place) 0

abbrev pub line_end : List FoundNode → PortLine → List End
line_end nodes line = line_with (node_guid_at nodes line.port.node) line line.guid line.lid

abbrev pub ends_of : DiscoveryState → List End
ends_of discovery = flat_map switch_end discovery.nodes ++ flat_map (line_end discovery.nodes) discovery.ports
