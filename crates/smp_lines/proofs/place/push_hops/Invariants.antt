use Rattle.std.proofs.Common.{◌≡◌, ◌++◌, flat_map, take}
use Rattle.smp_lines.specs.Place.{hop_text}
use Rattle.smp_lines.proofs.place.push_hops.Given as goal

abbrev pub invariant-loop-port : goal.invariant-loop-port
invariant-loop-port l = l.text.items ≡ l.fn.text.items ++ flat_map hop_text (take l.port-index l.ports)
