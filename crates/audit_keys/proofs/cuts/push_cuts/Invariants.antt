use Rattle.std.proofs.Common.{◌≡◌, ◌++◌, take}
use Rattle.std.specs.List.{flat_map}
use Rattle.audit_keys.specs.Cuts.{cut_lines}
use Rattle.audit_keys.proofs.cuts.push_cuts.Given as goal

abbrev pub invariant-loop-port : goal.invariant-loop-port
invariant-loop-port l =
    l.text.items ≡ l.fn.text.items ++ flat_map (cut_lines l.fn.listing.nodes.now l.fn.listing.ports.now) (take l.port-index l.fn.listing.ports.now)
