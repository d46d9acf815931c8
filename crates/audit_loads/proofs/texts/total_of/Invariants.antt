use Rattle.std.proofs.Common.{◌≡◌, take}
use Rattle.audit_loads.specs.Loads.{total_of}
use Rattle.audit_loads.proofs.texts.total_of.Given as goal

abbrev pub invariant-loop-one : goal.invariant-loop-one
invariant-loop-one l = l.total ≡ total_of (take l.one-index l.all)
