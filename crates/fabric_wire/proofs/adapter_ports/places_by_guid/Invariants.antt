use Rattle.std.proofs.Common.{nat_eq}
use Rattle.indexmap.specs.IndexMap.{get}
use Rattle.fabric_wire.specs.AdapterPorts.{IsReported}
use Rattle.fabric_wire.proofs.adapter_ports.places_by_guid.Given as goal

abbrev pub invariant-loop-node : goal.invariant-loop-node
invariant-loop-node l = IsReported l.nodes (get nat_eq l.places) l.node 1
