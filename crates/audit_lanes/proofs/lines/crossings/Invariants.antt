use Rattle.std.proofs.Common.{◌≡◌, flat_map, take}
use Rattle.topo_file.specs.Connectivity.{switches}
use Rattle.audit_lanes.specs.Lines.{crossings_at}
use Rattle.audit_lanes.proofs.lines.crossings.Given as goal

abbrev pub invariant-loop-place : goal.invariant-loop-place
invariant-loop-place l = l.crossings.items ≡ flat_map (crossings_at l.net) (take l.place-index (switches l.net.plan.nodes))
