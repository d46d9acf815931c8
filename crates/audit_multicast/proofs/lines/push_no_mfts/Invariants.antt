use Rattle.std.proofs.Common.{◌≡◌, ◌++◌, flat_map, take}
use Rattle.topo_file.specs.Connectivity.{switches}
use Rattle.audit_multicast.specs.Lines.{no_mft_line}
use Rattle.audit_multicast.proofs.lines.push_no_mfts.Given as goal

abbrev pub invariant-loop-place : goal.invariant-loop-place
invariant-loop-place l = l.text.items ≡ l.fn.text.items ++ flat_map (no_mft_line l.net l.mfts.tables) (take l.place-index (switches l.net.plan.nodes))
