use Rattle.std.proofs.Common.{◌≡◌, flat_map, map, take}
use Rattle.topo_file.specs.Connectivity.{switches}
use Rattle.audit_loops.specs.Channels.{channels_of, nexts}
use Rattle.audit_loops.proofs.channels.dependencies.Given as goal

abbrev pub invariant-loop-place : goal.invariant-loop-place
invariant-loop-place l = l.graph.items ≡ flat_map (λ place. map (nexts l.net l.courses) (channels_of l.net place)) (take l.place-index (switches l.net.plan.nodes))
