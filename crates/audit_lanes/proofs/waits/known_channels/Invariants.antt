use Rattle.std.proofs.Common.{take}
use Rattle.audit_lanes.specs.Keys.{KnowsChannels}
use Rattle.audit_lanes.proofs.waits.known_channels.Given as goal

abbrev pub invariant-loop-lid : goal.invariant-loop-lid
invariant-loop-lid l = KnowsChannels l.known l.net (take l.lid-index l.lids)
