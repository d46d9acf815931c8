use Rattle.std.proofs.Common.{drop}
use Rattle.audit_lanes.specs.Keys.{KnowsRows}
use Rattle.audit_lanes.proofs.tables.by_crossing.Given as goal

abbrev pub invariant-loop-index : goal.invariant-loop-index
invariant-loop-index l = KnowsRows l.known l.aims l.rows (drop l.index l.rows)
