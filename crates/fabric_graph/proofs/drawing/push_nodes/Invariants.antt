use Rattle.std.proofs.Common.{◌≡◌, ◌++◌}
use Rattle.std.specs.List.{flat_map, range_with_len}
use Rattle.fabric_graph.specs.Lists.{place_text}
use Rattle.fabric_graph.proofs.drawing.push_nodes.Given as goal

abbrev pub invariant-loop-place : goal.invariant-loop-place
invariant-loop-place l =
    l.text.items ≡ l.fn.text.items ++ flat_map (place_text l.fn.topology l.fn.configuration l.fn.attachments) (range_with_len 0 l.place)
