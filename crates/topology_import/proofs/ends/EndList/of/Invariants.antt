use Rattle.std.proofs.Common.{◌≡◌, filter, take}
use Rattle.topology_import.specs.Ends.{is_end}
use Rattle.topology_import.proofs.ends.EndList.of.Given as goal

abbrev pub invariant-loop-line : goal.invariant-loop-line
invariant-loop-line l = l.list ≡ filter (is_end l.nodes) (take l.line-index l.ports)
