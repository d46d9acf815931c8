use Rattle.std.proofs.Common.{◌≡◌, ◌++◌, take}
use Rattle.std.specs.List.{flat_map}
use Rattle.fabric_graph.specs.Lists.{row_at}
use Rattle.fabric_graph.proofs.list_lines.push_rows.Given as goal

abbrev pub invariant-loop-place : goal.invariant-loop-place
invariant-loop-place l =
    l.text.items ≡ l.fn.text.items ++ flat_map (row_at l.fn.topology l.fn.configuration l.fn.attachments) (take l.place-index l.fn.drawn)
