use Rattle.std.proofs.Common.{◌≡◌, ◌++◌, take}
use Rattle.std.specs.List.{flat_map}
use Rattle.audit_keys.specs.Text.{unread_lines}
use Rattle.audit_keys.proofs.text.push_unread.Given as goal

abbrev pub invariant-loop-port : goal.invariant-loop-port
invariant-loop-port l = l.text.items ≡ l.fn.text.items ++ flat_map (unread_lines l.fn.nodes) (take l.port-index l.fn.ports)
