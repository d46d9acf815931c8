use Rattle.std.proofs.Common.{◌≡◌, [], fold, take}
use Rattle.audit_keys.specs.Apart.{wide_with}
use Rattle.audit_keys.proofs.apart.ranked_wide.Given as goal

abbrev pub invariant-loop-base : goal.invariant-loop-base
invariant-loop-base l = l.all.items ≡ fold (wide_with l.fn.ports) [] (take l.base-index l.fn.bases)
