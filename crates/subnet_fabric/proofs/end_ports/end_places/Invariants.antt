use Rattle.std.proofs.Common.{◌≡◌, take}
use Rattle.std.specs.List.{flat_map, enumerate_from}
use Rattle.subnet_fabric.specs.Ports.{end_places_at}
use Rattle.subnet_fabric.proofs.end_ports.end_places.Given as goal

abbrev pub invariant-loop-place : goal.invariant-loop-place
invariant-loop-place l = l.all.items ≡ flat_map (end_places_at l.topology) (take l.place (enumerate_from 0 l.topology.nodes))
