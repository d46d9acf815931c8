use Rattle.std.proofs.Common.{◌≡◌, ◌++◌, take}
use Rattle.std.specs.List.{flat_map}
use Rattle.audit_keys.specs.Cuts.{cut_line}
use Rattle.audit_keys.proofs.cuts.push_each_cut.Given as goal

abbrev pub invariant-loop-base : goal.invariant-loop-base
invariant-loop-base l =
    l.text.items ≡ l.fn.text.items ++ flat_map (cut_line l.fn.listing.nodes.now l.fn.listing.ports.now l.fn.port l.fn.switch) (take l.base-index l.fn.bases)
