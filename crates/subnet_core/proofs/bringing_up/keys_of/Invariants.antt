use Rattle.std.proofs.Common.{◌≡◌, take}
use Rattle.subnet_fabric.specs.Laws.{all_keys}
use Rattle.subnet_core.proofs.bringing_up.keys_of.Given as goal

abbrev pub invariant-loop-port : goal.invariant-loop-port
invariant-loop-port l = l.keys.items ≡ all_keys (take l.port-index l.ports)
