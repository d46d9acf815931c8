use Rattle.std.proofs.Common.{◌≡◌, map, take}
use Rattle.audit_loads.specs.KeyClasses.{row_of}
use Rattle.audit_loads.proofs.key_classes.rows_of.Given as goal

abbrev pub invariant-loop-keys : goal.invariant-loop-keys
invariant-loop-keys l = l.rows.items ≡ map (row_of l.tables) (take l.keys-index l.tables)
