use Rattle.std.proofs.Common.{◌≡◌, take}
use Rattle.std.specs.List.{flat_map}
use Rattle.audit_keys.specs.Standing.{stray_at}
use Rattle.audit_keys.proofs.standing.strays.Given as goal

abbrev pub invariant-loop-base : goal.invariant-loop-base
invariant-loop-base l = l.text.items ≡ flat_map (stray_at l.fn.ports) (take l.base-index l.fn.bases)
