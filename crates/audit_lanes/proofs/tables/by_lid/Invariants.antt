use Rattle.std.proofs.Common.{drop}
use Rattle.audit_lanes.specs.Keys.{KnowsAims}
use Rattle.audit_lanes.proofs.tables.by_lid.Given as goal

abbrev pub invariant-loop-index : goal.invariant-loop-index
invariant-loop-index l = KnowsAims l.known (drop l.index l.aims)
