use Rattle.std.proofs.Common.{◌≡◌}
use Rattle.audit_net.specs.Lids.{aims_below, is_known_lid}
use Rattle.audit_net.proofs.lid_index.LidIndex.aims_below.Given as goal

abbrev pub invariant-loop-lid : goal.invariant-loop-lid
invariant-loop-lid l = l.aims.items ≡ aims_below l.self (is_known_lid l.self) l.lid
