use Rattle.std.proofs.Common.{nat_eq}
use Rattle.indexmap.specs.IndexMap.{get}
use Rattle.fabric_wire.specs.AdapterPorts.{IsReported}
use Rattle.fabric_wire.proofs.adapter_ports.put_ports.Given as goal

abbrev pub invariant-loop-port : goal.invariant-loop-port
invariant-loop-port l = IsReported l.nodes (get nat_eq l.places) l.node l.port
