use Rattle.std.proofs.Common.{◌≡◌, map, take}
use Rattle.audit_multicast.specs.Masks.{mask_of}
use Rattle.audit_multicast.proofs.masks.masks_of.Given as goal

abbrev pub invariant-loop-node : goal.invariant-loop-node
invariant-loop-node l = l.masks.items ≡ map (mask_of l.mfts.tables l.mlid) (take l.node-index l.net.plan.nodes)
