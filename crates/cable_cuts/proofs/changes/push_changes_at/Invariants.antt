use Rattle.std.proofs.Common.{◌≡◌, ◌++◌, take}
use Rattle.std.specs.List.{flat_map}
use Rattle.cable_cuts.specs.Changes.{change_at, entry_by}
use Rattle.cable_cuts.proofs.changes.push_changes_at.Given as goal

abbrev pub invariant-loop-port : goal.invariant-loop-port
invariant-loop-port l =
    l.all.items ≡ l.fn.all.items ++ flat_map (change_at (entry_by l.fn.routes) (entry_by l.fn.others) l.fn.switch) (take l.port-index l.fn.ports)
