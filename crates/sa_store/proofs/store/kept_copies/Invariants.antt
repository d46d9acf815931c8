use Rattle.std.proofs.Common.{◌≡◌, ◌++◌, drop, map}
use Rattle.sa_store.specs.Kept.{at_the_start}
use Rattle.sa_store.proofs.store.kept_copies.Given as goal

abbrev pub invariant-loop-port : goal.invariant-loop-port
invariant-loop-port l = l.kept.items ++ map at_the_start (drop l.port-index l.ports) ≡ map at_the_start l.ports
