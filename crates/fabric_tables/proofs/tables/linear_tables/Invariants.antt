use Rattle.std.proofs.Common.{◌≡◌, take}
use Rattle.std.specs.List.{flat_map}
use Rattle.fabric_tables.specs.Tables.{port_table}
use Rattle.fabric_tables.proofs.tables.linear_tables.Given as goal

abbrev pub invariant-loop-port : goal.invariant-loop-port
invariant-loop-port l =
    l.text.items ≡ flat_map (port_table l.topology.nodes l.fabric l.graph.switches l.ports) (take l.port-index l.ports)
