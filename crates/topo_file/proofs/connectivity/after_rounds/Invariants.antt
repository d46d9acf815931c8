use Rattle.topo_file.proofs.connectivity.after_rounds.Given as goal
use Rattle.std.proofs.Common.{◌≡◌}
use Rattle.topo_file.specs.Rounds.{after_rounds}

abbrev pub invariant-loop : goal.invariant-loop
invariant-loop l = l.marks.items ≡ after_rounds l.nodes l.cables l.place l.counter
