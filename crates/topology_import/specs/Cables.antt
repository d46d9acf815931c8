-- The cables of the topology.
use Rattle.std.specs.Prelude.{ℕ, Bool, ◌-◌, ◌==◌, ◌&&◌, ◌||◌, nat_le, nat_lt, List, [], ◌∷◌, flat_map, Option, Some, None, if◌then◌else◌}
use Rattle.std.specs.Option.{option_map_or}
use Rattle.fabric_parts.specs.declared.cable.PortRef.{PortRef}
use Rattle.netdiscover_file.specs.declared.node.Node.{Node}
use Rattle.netdiscover_file.specs.declared.port.PortLine.{PortLine}
use Rattle.netdiscover_file.specs.Agreement.{far_line}
use Rattle.netdiscover_file.specs.Discovery.{DiscoveryState}
use Rattle.topology_import.specs.declared.cables.End.{End}
use Rattle.topology_import.specs.declared.cables.CableMeant.{CableMeant}
use Rattle.topology_import.specs.Ends.{counted, ends, number_of}
use Rattle.topology_import.specs.Nodes.{switch_guid_at}

-- ---- an end of a cable: the GUID that its node has in the topology, and the number that its port has there
abbrev pub adapter_end : List PortLine → ℕ → End
adapter_end ends guid = record { guid = guid - number_of ends guid; port = number_of ends guid }

abbrev pub switch_end : List Node → PortRef → End
switch_end nodes port = record { guid = switch_guid_at nodes port.node; port = port.port }

abbrev pub end_by : List Node → List PortLine → PortRef → Option ℕ → End
end_by nodes ends port (Some guid) = adapter_end ends guid
end_by nodes ends port None = switch_end nodes port

abbrev pub end_of : List Node → List PortLine → PortLine → End
end_of nodes ends line = end_by nodes ends line.port line.guid

-- ---- each cable once, at the first of the two ports that it joins
abbrev pub is_not_behind : PortRef → PortRef → Bool
is_not_behind a b = nat_lt a.node b.node || ((a.node == b.node) && nat_le a.port b.port)

abbrev pub cable_between : List Node → List PortLine → PortLine → PortLine → List CableMeant
cable_between nodes ends line other =
    if is_not_behind line.port other.port
    then (record { first = end_of nodes ends line; second = end_of nodes ends other; line = line.line }) ∷ []
    else []

abbrev pub cable_at : DiscoveryState → List PortLine → PortLine → List CableMeant
cable_at discovery ends line =
    option_map_or (cable_between discovery.nodes ends line) (far_line discovery.nodes discovery.ports line.far) []

abbrev pub cables_meant : DiscoveryState → List CableMeant
cables_meant discovery = flat_map (cable_at discovery (ends discovery)) (counted discovery)
