use Rattle.std.proofs.Common.{◌≡◌, ◌++◌, take}
use Rattle.std.specs.List.{flat_map}
use Rattle.fabric_tables.specs.Tables.{line_towards}
use Rattle.fabric_tables.proofs.tables.push_lines_towards.Given as goal

abbrev pub invariant-loop-port : goal.invariant-loop-port
invariant-loop-port l = l.text.items ≡ l.fn.text.items ++ flat_map (line_towards l.fn.held) (take l.port-index l.fn.ports)
