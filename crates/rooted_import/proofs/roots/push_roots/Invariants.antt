use Rattle.std.proofs.Common.{◌≡◌, ◌++◌, flat_map, take}
use Rattle.rooted_import.specs.Roots.{root_line}
use Rattle.rooted_import.proofs.roots.push_roots.Given as goal

abbrev pub invariant-loop-root : goal.invariant-loop-root
invariant-loop-root l = l.text.items ≡ l.fn.text.items ++ flat_map (root_line l.fn.nodes) (take l.root-index l.fn.roots)
