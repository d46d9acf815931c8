use Rattle.std.proofs.Common.{◌≡◌, flat_map, take}
use Rattle.topo_file.specs.Connectivity.{switches}
use Rattle.audit_routes.specs.Pairs.{pairs_at}
use Rattle.audit_routes.proofs.pairs.pairs.Given as goal

abbrev pub invariant-loop-place : goal.invariant-loop-place
invariant-loop-place l = l.pairs.items ≡ flat_map (pairs_at l.net l.aims) (take l.place-index (switches l.net.plan.nodes))
