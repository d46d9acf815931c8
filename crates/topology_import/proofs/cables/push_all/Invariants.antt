use Rattle.std.proofs.Common.{◌≡◌, ◌++◌, take}
use Rattle.std.specs.List.{flat_map}
use Rattle.topology_import.specs.Cables.{cable_at}
use Rattle.topology_import.proofs.cables.push_all.Given as goal

abbrev pub invariant-loop-line : goal.invariant-loop-line
invariant-loop-line l = l.list.items ≡ l.fn.list.items ++ flat_map (cable_at l.fn.discovery l.fn.ends) (take l.line-index l.fn.lines)
