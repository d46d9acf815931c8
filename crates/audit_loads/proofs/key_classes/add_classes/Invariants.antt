use Rattle.std.proofs.Common.{drop}
use Rattle.audit_loads.specs.KeyClasses.{KnowsClasses}
use Rattle.audit_loads.proofs.key_classes.add_classes.Given as goal

abbrev pub invariant-loop-index : goal.invariant-loop-index
invariant-loop-index l = KnowsClasses l.tables.items l.classes (drop l.index l.ports)
