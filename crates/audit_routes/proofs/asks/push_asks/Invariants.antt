use Rattle.std.proofs.Common.{◌≡◌, ◌++◌, flat_map, take}
use Rattle.topo_file.specs.Connectivity.{switches}
use Rattle.audit_routes.specs.Asks.{ask_line}
use Rattle.audit_routes.proofs.asks.push_asks.Given as goal

abbrev pub invariant-loop-place : goal.invariant-loop-place
invariant-loop-place l = l.text.items ≡ l.fn.text.items ++ flat_map (ask_line l.net l.aims) (take l.place-index (switches l.net.plan.nodes))
