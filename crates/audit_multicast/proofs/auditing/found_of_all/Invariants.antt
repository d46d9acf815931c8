use Rattle.std.proofs.Common.{◌≡◌, map, take}
use Rattle.audit_multicast.specs.Audit.{found_of}
use Rattle.audit_multicast.proofs.auditing.found_of_all.Given as goal

abbrev pub invariant-loop-mlid : goal.invariant-loop-mlid
invariant-loop-mlid l = l.all.items ≡ map (found_of l.net l.mfts.tables) (take l.mlid-index l.mlids)
