use Rattle.std.proofs.Common.{◌≡◌, map, take}
use Rattle.topo_file.specs.Connectivity.{switches}
use Rattle.audit_loads.specs.Sources.{entrance}
use Rattle.audit_loads.proofs.sources.entrances.Given as goal

abbrev pub invariant-loop-place : goal.invariant-loop-place
invariant-loop-place l = l.all.items ≡ map (entrance l.net) (take l.place-index (switches l.net.plan.nodes))
