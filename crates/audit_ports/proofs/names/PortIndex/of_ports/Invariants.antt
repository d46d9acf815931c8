use Rattle.std.proofs.Common.{◌≡◌, [], fold, take}
use Rattle.audit_ports.specs.Ends.{with_port}
use Rattle.audit_ports.proofs.names.PortIndex.of_ports.Given as goal

abbrev pub invariant-loop-port : goal.invariant-loop-port
invariant-loop-port l = l.index ≡ fold with_port [] (take l.port-index l.fn.ports)
