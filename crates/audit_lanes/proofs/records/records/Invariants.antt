use Rattle.std.proofs.Common.{◌≡◌, flat_map, take}
use Rattle.audit_lanes.specs.Records.{records_from}
use Rattle.audit_lanes.proofs.records.records.Given as goal

abbrev pub invariant-loop-a : goal.invariant-loop-a
invariant-loop-a l = l.records.items ≡ flat_map (records_from l.paths l.all) (take l.a-index l.all)
