use Rattle.std.proofs.Common.{◌≡◌, ◌++◌, take}
use Rattle.std.specs.List.{flat_map}
use Rattle.subnet_core.specs.Listing.{port_line}
use Rattle.subnet_core.proofs.listing.push_ports.Given as goal

abbrev pub invariant-loop-port : goal.invariant-loop-port
invariant-loop-port l = l.text.items ≡ l.initial.text.items ++ flat_map port_line (take l.port-index l.ports)
