use Rattle.std.proofs.Common.{◌≡◌, ◌++◌, map, drop}
use Rattle.std.specs.List.{enumerate_from}
use Rattle.sweep.specs.Recabled.{row_without, rows_without}
use Rattle.sweep.proofs.recabled.rows_without.Given as goal

abbrev pub invariant-loop-place : goal.invariant-loop-place
invariant-loop-place l =
    rows_without l.a l.b l.rows
    ≡ l.kept.items ++ map (λ (place, links). row_without l.a l.b place links) (enumerate_from l.place (drop l.place l.rows))
