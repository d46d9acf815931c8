use Rattle.std.proofs.Common.{◌≡◌, ◌++◌, take}
use Rattle.std.specs.List.{flat_map}
use Rattle.audit_ports.specs.Ends.{switch_end}
use Rattle.audit_ports.proofs.ends.push_switches.Given as goal

abbrev pub invariant-loop-node : goal.invariant-loop-node
invariant-loop-node l = l.ends.items ≡ l.fn.ends.items ++ flat_map switch_end (take l.node-index l.fn.nodes)
