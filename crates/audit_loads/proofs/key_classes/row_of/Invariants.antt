use Rattle.std.proofs.Common.{◌≡◌, map, take}
use Rattle.pkey_rules.specs.KeyTable.{shares}
use Rattle.audit_loads.proofs.key_classes.row_of.Given as goal

abbrev pub invariant-loop-table : goal.invariant-loop-table
invariant-loop-table l = l.row.items ≡ map (shares l.keys) (take l.table-index l.tables)
