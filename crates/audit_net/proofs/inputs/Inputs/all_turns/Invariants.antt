use Rattle.std.proofs.Common.{◌≡◌, map}
use Rattle.std.specs.List.{range_with_len}
use Rattle.audit_net.specs.Lookup.{turns_at}
use Rattle.audit_net.proofs.inputs.Inputs.all_turns.Given as goal

abbrev pub invariant-loop-place : goal.invariant-loop-place
invariant-loop-place l = l.all.items ≡ map (turns_at l.self) (range_with_len 0 l.place)
