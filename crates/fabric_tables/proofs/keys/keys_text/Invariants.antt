use Rattle.std.proofs.Common.{◌≡◌, take}
use Rattle.std.specs.List.{flat_map}
use Rattle.fabric_tables.specs.Keys.{port_lines}
use Rattle.fabric_tables.proofs.keys.keys_text.Given as goal

abbrev pub invariant-loop-port : goal.invariant-loop-port
invariant-loop-port l = l.text.items ≡ flat_map (port_lines l.topology.nodes l.fabric) (take l.port-index l.ports)
