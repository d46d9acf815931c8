use Rattle.std.proofs.Common.{◌≡◌, ◌++◌, flat_map, take}
use Rattle.audit_multicast.specs.Lines.{mask_port_line}
use Rattle.audit_multicast.proofs.lines.push_mask_row.Given as goal

abbrev pub invariant-loop-number : goal.invariant-loop-number
invariant-loop-number l = l.text.items ≡ l.fn.text.items ++ flat_map (mask_port_line l.net l.place l.row.mlid) (take l.number-index l.row.ports)
