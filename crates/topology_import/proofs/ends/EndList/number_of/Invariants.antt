use Rattle.std.proofs.Common.{◌≡◌, ◌-◌, not, find, unwrap_or}
use Rattle.std.specs.List.{range_with_len}
use Rattle.topology_import.specs.Ends.{is_below, number_of}
use Rattle.topology_import.proofs.ends.EndList.number_of.Given as goal

abbrev pub invariant-loop-steps : goal.invariant-loop-steps
invariant-loop-steps l =
    number_of l.self l.guid ≡ unwrap_or (find (λ steps. not (is_below l.self l.guid steps)) (range_with_len l.steps (9 - l.steps))) 9
