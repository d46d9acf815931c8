use Rattle.std.proofs.Common.{◌≡◌, ◌++◌, take}
use Rattle.std.specs.List.{flat_map}
use Rattle.audit_keys.specs.Text.{trunk_lines}
use Rattle.audit_keys.proofs.trunks.push_trunks.Given as goal

abbrev pub invariant-loop-port : goal.invariant-loop-port
invariant-loop-port l = l.text.items ≡ l.fn.text.items ++ flat_map (trunk_lines l.fn.nodes) (take l.port-index l.fn.ports)
