use Rattle.std.proofs.Common.{◌≡◌, take}
use Rattle.std.specs.List.{flat_map}
use Rattle.cable_cuts.specs.Changes.{changes_at, entry_by}
use Rattle.cable_cuts.proofs.changes.changes.Given as goal

abbrev pub invariant-loop-port : goal.invariant-loop-port
invariant-loop-port l =
    l.all.items ≡ flat_map (changes_at l.fn.ports (entry_by l.fn.routes) (entry_by l.fn.others)) (take l.port-index l.fn.ports)
