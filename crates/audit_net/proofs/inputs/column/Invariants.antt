use Rattle.std.proofs.Common.{◌≡◌, map}
use Rattle.std.specs.List.{range_with_len}
use Rattle.audit_net.specs.Net.{entry_in}
use Rattle.audit_net.proofs.inputs.column.Given as goal

abbrev pub invariant-loop-lid : goal.invariant-loop-lid
invariant-loop-lid l = l.entries.items ≡ map (λ lid. entry_in l.ports lid l.table) (range_with_len 0 l.lid)
