use Rattle.std.proofs.Common.{◌≡◌, ◌++◌, flat_map, take}
use Rattle.audit_routes.specs.Lines.{no_switch_line}
use Rattle.audit_routes.proofs.lines.push_no_switches.Given as goal

abbrev pub invariant-loop-table : goal.invariant-loop-table
invariant-loop-table l = l.text.items ≡ l.fn.text.items ++ flat_map (no_switch_line l.net) (take l.table-index l.net.dump.tables)
