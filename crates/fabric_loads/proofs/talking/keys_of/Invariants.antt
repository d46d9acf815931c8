use Rattle.std.proofs.Common.{◌≡◌, flat_map, take}
use Rattle.fabric_loads.specs.OwnLoads.{port_keys}
use Rattle.fabric_loads.proofs.talking.keys_of.Given as goal

abbrev pub invariant-loop-one : goal.invariant-loop-one
invariant-loop-one l = l.all.items ≡ flat_map (port_keys l.topology.nodes) (take l.one-index l.ports)
