use Rattle.std.proofs.Common.{◌≡◌, ◌++◌, flat_map, take}
use Rattle.audit_multicast.specs.Lines.{mask_row_lines}
use Rattle.audit_multicast.proofs.lines.push_mask_table.Given as goal

abbrev pub invariant-loop-row : goal.invariant-loop-row
invariant-loop-row l = l.text.items ≡ l.fn.text.items ++ flat_map (mask_row_lines l.net l.place) (take l.row-index l.table.rows)
