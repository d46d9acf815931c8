use Rattle.std.proofs.Common.{◌≡◌, [], fold, take}
use Rattle.audit_ports.specs.Strangers.{with_guid}
use Rattle.audit_ports.proofs.strangers.distinct.Given as goal

abbrev pub invariant-loop-guid : goal.invariant-loop-guid
invariant-loop-guid l = l.set.keys ≡ fold with_guid [] (take l.guid-index l.fn.guids)
