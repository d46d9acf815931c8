use Rattle.std.proofs.Common.{◌≡◌, ◌-◌, map}
use Rattle.std.specs.List.{range_with_len}
use Rattle.rmpp_core.specs.Segments.{segment_mad}
use Rattle.sa_answer.proofs.transfers.segments_between.Given as goal

abbrev pub invariant-loop-number : goal.invariant-loop-number
invariant-loop-number l = l.mads.items ≡ map (segment_mad l.sender) (range_with_len l.acked.first (l.number - l.acked.first))
