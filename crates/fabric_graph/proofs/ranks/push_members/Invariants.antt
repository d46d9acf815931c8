use Rattle.std.proofs.Common.{◌≡◌, ◌++◌, take}
use Rattle.std.specs.List.{flat_map}
use Rattle.fabric_graph.specs.Ranks.{member}
use Rattle.fabric_graph.proofs.ranks.push_members.Given as goal

abbrev pub invariant-loop-place : goal.invariant-loop-place
invariant-loop-place l = l.text.items ≡ l.fn.text.items ++ flat_map (member l.fn.nodes) (take l.place-index l.fn.places)
