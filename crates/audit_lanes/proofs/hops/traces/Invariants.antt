use Rattle.std.proofs.Common.{◌≡◌, map, take}
use Rattle.audit_lanes.specs.Hops.{hops_of}
use Rattle.audit_lanes.proofs.hops.traces.Given as goal

abbrev pub invariant-loop-path : goal.invariant-loop-path
invariant-loop-path l = l.all.items ≡ map (hops_of l.net l.tables) (take l.path-index l.paths)
