use Rattle.std.proofs.Common.{◌≡◌, map, take, List}
use Rattle.audit_net.specs.Net.{NetState}
use Rattle.audit_loads.specs.Loads.{loaded}
use Rattle.audit_loads.specs.Sources.{Pair}
use Rattle.audit_loads.specs.Walk.{AreSums}
use Rattle.audit_loads.proofs.loads.loaded_all.Given as goal

abbrev pub invariant-loop-at : goal.invariant-loop-at
invariant-loop-at l = (net : NetState) (pairs : List Pair) → AreSums net pairs l.sums → l.found.items ≡ map (loaded net pairs) (take l.at-index l.channels)
