use Rattle.std.proofs.Common.{◌≡◌, ◌++◌, take}
use Rattle.std.specs.List.{flat_map}
use Rattle.topology_import.specs.Text.{cable_line}
use Rattle.topology_import.proofs.text.push_cable_lines.Given as goal

abbrev pub invariant-loop-cable : goal.invariant-loop-cable
invariant-loop-cable l = l.text.items ≡ l.fn.text.items ++ flat_map (cable_line l.fn.nodes) (take l.cable-index l.fn.cables)
