use Rattle.std.proofs.Common.{◌≡◌, ◌++◌, take}
use Rattle.std.specs.List.{flat_map}
use Rattle.fabric_tables.specs.Multicast.{port_table}
use Rattle.fabric_tables.proofs.multicast.push_multicast_tables.Given as goal

abbrev pub invariant-loop-port : goal.invariant-loop-port
invariant-loop-port l =
    l.text.items ≡ l.fn.text.items ++ flat_map (port_table l.fn.topology.nodes l.fn.fabric l.fn.graph.switches) (take l.port-index l.fn.ports)
