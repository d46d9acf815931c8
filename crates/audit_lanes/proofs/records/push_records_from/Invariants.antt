use Rattle.std.proofs.Common.{◌≡◌, ◌++◌, filter, map, take}
use Rattle.audit_lanes.specs.Records.{has_record, is_pair}
use Rattle.audit_lanes.proofs.records.push_records_from.Given as goal

abbrev pub invariant-loop-b : goal.invariant-loop-b
invariant-loop-b l = l.records.items ≡ l.fn.records.items ++ map (has_record l.paths l.a) (filter (is_pair l.a) (take l.b-index l.all))
