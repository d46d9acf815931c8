use Rattle.std.proofs.Common.{ℕ, List, ◌≡◌, map, take}
use Rattle.topo_file.specs.declared.node.Node.{Node}
use Rattle.fabric_loads.specs.HeldRows.{destination_of, rows_from}
use Rattle.fabric_loads.proofs.rows.rows_of.Given as goal

abbrev pub invariant-loop-index : goal.invariant-loop-index
invariant-loop-index l =
    (nodes : List Node) (guids : List ℕ) → l.all ≡ map (destination_of nodes) guids → l.rows.items ≡ rows_from nodes l.held 1 (take l.index guids)
