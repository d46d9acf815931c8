use Rattle.std.proofs.Common.{take}
use Rattle.audit_lanes.specs.Keys.{KnowsRecords}
use Rattle.audit_lanes.proofs.owned.known_records.Given as goal

abbrev pub invariant-loop-path : goal.invariant-loop-path
invariant-loop-path l = KnowsRecords l.known (take l.path-index l.paths)
