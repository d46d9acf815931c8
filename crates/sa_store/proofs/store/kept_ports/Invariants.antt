use Rattle.std.proofs.Common.{◌≡◌, ◌++◌, drop, map}
use Rattle.sa_store.specs.Kept.{at_the_start}
use Rattle.sa_store.specs.NodePorts.{all_with_keys}
use Rattle.sa_store.proofs.store.kept_ports.Given as goal

abbrev pub invariant-loop-place : goal.invariant-loop-place
invariant-loop-place l =
    l.kept.items ++ map at_the_start (all_with_keys (drop l.place l.ports) (drop l.place l.keys)) ≡ map at_the_start (all_with_keys l.ports l.keys)
