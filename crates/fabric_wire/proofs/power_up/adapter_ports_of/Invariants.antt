use Rattle.std.proofs.Common.{◌≡◌, ◌-◌, ◌≤◌, map}
use Rattle.std.specs.List.{range_with_len}
use Rattle.fabric_wire.specs.OfTopology.{adapter_port_of}
use Rattle.fabric_wire.proofs.power_up.adapter_ports_of.Given as goal

abbrev pub invariant-loop-number : goal.invariant-loop-number
invariant-loop-number l =
    record {
      first : 1 ≤ l.number;
      ports : l.ports.items ≡ map (adapter_port_of l.topology.cables l.place l.node) (range_with_len 1 (l.number - 1));
    }
