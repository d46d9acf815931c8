use Rattle.std.proofs.Common.{◌≡◌, ◌||◌}
use Rattle.std.specs.List.{list_any, range_with_len}
use Rattle.indexmap.specs.IndexSet.{contains}
use Rattle.audit_lanes.specs.declared.lane.ChannelPair.{ChannelPair}
use Rattle.audit_lanes.specs.Keys.{is_same_channels, takes_channels}
use Rattle.audit_lanes.proofs.waits.note_lid.Given as goal

abbrev pub invariant-loop-place : goal.invariant-loop-place
invariant-loop-place l = (pair : ChannelPair) → contains is_same_channels l.known pair ≡ (contains is_same_channels l.fn.known pair || list_any (takes_channels l.net pair l.lid) (range_with_len 0 l.place))
