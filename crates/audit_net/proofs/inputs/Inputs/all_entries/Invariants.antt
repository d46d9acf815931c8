use Rattle.std.proofs.Common.{◌≡◌, map}
use Rattle.std.specs.List.{range_with_len}
use Rattle.audit_net.specs.Lookup.{column_at}
use Rattle.audit_net.proofs.inputs.Inputs.all_entries.Given as goal

abbrev pub invariant-loop-place : goal.invariant-loop-place
invariant-loop-place l = l.all.items ≡ map (column_at l.self) (range_with_len 0 l.place)
