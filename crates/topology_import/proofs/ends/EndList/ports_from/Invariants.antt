use Rattle.std.proofs.Common.{◌≡◌, ◌-◌, not, find, unwrap_or}
use Rattle.std.specs.List.{range_with_len}
use Rattle.topology_import.specs.Ends.{is_above, ports_from}
use Rattle.topology_import.proofs.ends.EndList.ports_from.Given as goal

abbrev pub invariant-loop-steps : goal.invariant-loop-steps
invariant-loop-steps l =
    ports_from l.self l.guid ≡ unwrap_or (find (λ steps. not (is_above l.self l.guid steps)) (range_with_len l.steps (9 - l.steps))) 9
