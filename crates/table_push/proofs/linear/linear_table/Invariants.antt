use Rattle.std.proofs.Common.{◌≡◌, length, map, take}
use Rattle.std.specs.List.{range_with_len}
use Rattle.table_push.specs.Linear.{linear_entry}
use Rattle.table_push.proofs.linear.linear_table.Given as goal

-- the first entries are the routes'
abbrev pub invariant-loop-lid : goal.invariant-loop-lid
invariant-loop-lid l = record {
  long : length l.ports ≡ 512;
  are : take l.lid l.ports ≡ map (linear_entry l.routes l.place) (range_with_len 0 l.lid);
}
