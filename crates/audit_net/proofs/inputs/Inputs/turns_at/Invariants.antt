use Rattle.std.proofs.Common.{◌≡◌, ◌+◌, map}
use Rattle.std.specs.List.{range_with_len}
use Rattle.audit_net.specs.Following.{turn_by}
use Rattle.audit_net.specs.declared.entry.Entry.TheVariants.{Out}
use Rattle.audit_net.proofs.inputs.Inputs.turns_at.Given as goal

abbrev pub invariant-loop-number : goal.invariant-loop-number
invariant-loop-number l = l.turns.items ≡ map (λ number. turn_by l.self l.place (Out (number + 1))) (range_with_len 0 l.number)
