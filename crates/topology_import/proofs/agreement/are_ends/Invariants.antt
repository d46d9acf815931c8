use Rattle.std.proofs.Common.{◌≡◌, ◌+◌, ◌-◌}
use Rattle.std.specs.List.{list_all, range_with_len}
use Rattle.topology_import.specs.Ends.{is_above}
use Rattle.topology_import.proofs.agreement.are_ends.Given as goal

abbrev pub invariant-loop-before : goal.invariant-loop-before
invariant-loop-before l =
    list_all (λ before. is_above l.ends l.guid (before + 1)) (range_with_len 0 l.ports)
    ≡ list_all (λ before. is_above l.ends l.guid (before + 1)) (range_with_len l.before (l.ports - l.before))
