-- Whether two graphs are the same: the same switches, links and ports of adapters, in the same order.
use Rattle.std.specs.Prelude.{◌==◌, ◌&&◌, Bool, List, length}
use Rattle.std.specs.List.{list_all, zip}
use Rattle.std.specs.Str.{bytes_eq}
use Rattle.fabric_parts.specs.Cable.{is_same_port}
use Rattle.sweep.specs.Graph.{GraphState}
use Rattle.sweep.specs.declared.graph.GraphLink.{GraphLink}
use Rattle.sweep.specs.declared.graph.GraphPort.{GraphPort}
use Rattle.sweep.specs.declared.graph.GraphSwitch.{GraphSwitch}

abbrev pub are_alike : {X : Type 0} → (X × X → Bool) → List X → List X → Bool
are_alike same xs ys = (length xs == length ys) && list_all same (zip xs ys)

abbrev pub is_same_switch : GraphSwitch × GraphSwitch → Bool
is_same_switch two =
    (two.0.guid == two.1.guid) && ((two.0.num_ports == two.1.num_ports) && (bytes_eq two.0.name two.1.name && bytes_eq two.0.path two.1.path))

abbrev pub is_same_link : GraphLink × GraphLink → Bool
is_same_link two = (two.0.port == two.1.port) && is_same_port two.0.to two.1.to

abbrev pub is_same_row : List GraphLink × List GraphLink → Bool
is_same_row two = are_alike is_same_link two.0 two.1

-- the numbers of the adapter, and of the port
abbrev pub has_same_numbers : GraphPort × GraphPort → Bool
has_same_numbers two =
    (two.0.node_guid == two.1.node_guid)
    && ((two.0.port_guid == two.1.port_guid) && ((two.0.number == two.1.number) && (two.0.num_ports == two.1.num_ports)))

abbrev pub is_same_port_of : GraphPort × GraphPort → Bool
is_same_port_of two = has_same_numbers two && (bytes_eq two.0.name two.1.name && is_same_port two.0.at two.1.at)

abbrev pub is_same_graph : GraphState → GraphState → Bool
is_same_graph one other =
    (one.manager == other.manager)
    && (are_alike is_same_switch one.switches other.switches
    && (are_alike is_same_row one.rows other.rows && are_alike is_same_port_of one.ports other.ports))
