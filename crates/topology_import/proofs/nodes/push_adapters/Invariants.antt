use Rattle.std.proofs.Common.{◌≡◌, ◌++◌, map, take}
use Rattle.topology_import.specs.Nodes.{adapter_meant}
use Rattle.topology_import.proofs.nodes.push_adapters.Given as goal

abbrev pub invariant-loop-first : goal.invariant-loop-first
invariant-loop-first l = l.list.items ≡ l.fn.list.items ++ map (adapter_meant l.fn.ends) (take l.first-index l.fn.firsts)
