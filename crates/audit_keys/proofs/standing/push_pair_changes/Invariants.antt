use Rattle.std.proofs.Common.{◌≡◌, ◌++◌, take}
use Rattle.std.specs.List.{flat_map}
use Rattle.audit_keys.specs.Standing.{pairs_at}
use Rattle.audit_keys.proofs.standing.push_pair_changes.Given as goal

abbrev pub invariant-loop-base : goal.invariant-loop-base
invariant-loop-base l = l.text.items ≡ l.fn.text.items ++ flat_map (pairs_at l.fn.listing.nodes.now l.fn.listing.all l.fn.ports) (take l.base-index l.fn.bases)
