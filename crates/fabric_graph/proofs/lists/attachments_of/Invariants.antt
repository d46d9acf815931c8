use Rattle.std.proofs.Common.{◌≡◌, map}
use Rattle.std.specs.List.{range_with_len}
use Rattle.fabric_graph.specs.Lists.{attachment_at}
use Rattle.fabric_graph.proofs.lists.attachments_of.Given as goal

abbrev pub invariant-loop-place : goal.invariant-loop-place
invariant-loop-place l = l.attachments.items ≡ map (attachment_at l.fn.topology l.fn.configuration) (range_with_len 0 l.place)
