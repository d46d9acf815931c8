use Rattle.std.proofs.Common.{◌≡◌, flat_map, take}
use Rattle.fabric_parts.specs.Cable.{port}
use Rattle.topo_file.specs.Connectivity.{switches}
use Rattle.audit_multicast.specs.Ways.{outs}
use Rattle.audit_multicast.proofs.loops.all_outs.Given as goal

abbrev pub invariant-loop-place : goal.invariant-loop-place
invariant-loop-place l = l.all.items ≡ flat_map (λ place. outs l.net l.masks (port place 0)) (take l.place-index (switches l.net.plan.nodes))
