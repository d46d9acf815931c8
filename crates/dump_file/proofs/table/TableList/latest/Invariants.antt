use Rattle.std.proofs.Common.{◌≡◌}
use Rattle.dump_file.specs.Table.{latest}
use Rattle.dump_file.proofs.table.TableList.latest.Given as goal

abbrev pub invariant-loop-table : goal.invariant-loop-table
invariant-loop-table l = l.list ≡ latest l.yielded
