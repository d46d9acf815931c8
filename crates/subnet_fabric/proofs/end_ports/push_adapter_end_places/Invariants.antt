use Rattle.std.proofs.Common.{◌≡◌, ◌++◌}
use Rattle.subnet_fabric.specs.Ports.{adapter_end_places}
use Rattle.subnet_fabric.proofs.end_ports.push_adapter_end_places.Given as goal

abbrev pub invariant-loop-index : goal.invariant-loop-index
invariant-loop-index l = l.all.items ≡ l.initial.all.items ++ adapter_end_places l.topology l.place l.node l.index
