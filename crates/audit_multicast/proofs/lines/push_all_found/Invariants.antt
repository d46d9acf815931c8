use Rattle.std.proofs.Common.{◌≡◌, ◌++◌, flat_map, take}
use Rattle.audit_multicast.specs.Lines.{found_lines}
use Rattle.audit_multicast.proofs.lines.push_all_found.Given as goal

abbrev pub invariant-loop-found : goal.invariant-loop-found
invariant-loop-found l = l.text.items ≡ l.fn.text.items ++ flat_map (found_lines l.net) (take l.found-index l.all)
