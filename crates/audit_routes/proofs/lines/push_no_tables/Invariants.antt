use Rattle.std.proofs.Common.{◌≡◌, ◌++◌, flat_map, take}
use Rattle.topo_file.specs.Connectivity.{switches}
use Rattle.audit_routes.specs.Lines.{no_table_line}
use Rattle.audit_routes.proofs.lines.push_no_tables.Given as goal

abbrev pub invariant-loop-place : goal.invariant-loop-place
invariant-loop-place l = l.text.items ≡ l.fn.text.items ++ flat_map (no_table_line l.net) (take l.place-index (switches l.net.plan.nodes))
