use Rattle.std.proofs.Common.{◌≡◌, flat_map, take}
use Rattle.topo_file.specs.Connectivity.{switches}
use Rattle.audit_loops.specs.Channels.{channels_of}
use Rattle.audit_loops.proofs.channels.all_channels.Given as goal

abbrev pub invariant-loop-place : goal.invariant-loop-place
invariant-loop-place l = l.channels.items ≡ flat_map (channels_of l.net) (take l.place-index (switches l.net.plan.nodes))
