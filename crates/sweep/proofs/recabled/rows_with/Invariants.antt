use Rattle.std.proofs.Common.{◌≡◌, ◌++◌, map, drop}
use Rattle.std.specs.List.{enumerate_from}
use Rattle.sweep.specs.Recabled.{row_with, rows_with}
use Rattle.sweep.proofs.recabled.rows_with.Given as goal

abbrev pub invariant-loop-place : goal.invariant-loop-place
invariant-loop-place l =
    rows_with l.a l.b l.rows
    ≡ l.all.items ++ map (λ (place, links). row_with l.a l.b place links) (enumerate_from l.place (drop l.place l.rows))
