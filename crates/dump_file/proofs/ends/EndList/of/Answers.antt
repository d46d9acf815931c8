use Rattle.std.proofs.Common.{◌∙◌, ap, sym, List}
use Rattle.std.specs.Option.{option_or}
use Rattle.dump_file.specs.declared.row.Row.{Row}
use Rattle.dump_file.specs.Index.{end_known}
use Rattle.dump_file.specs.Row.{end_of}
use Rattle.dump_file.proofs.EndLemmas.{table_more}
use Rattle.dump_file.proofs.ends.EndList.of.Goals as goal

pub loop-table-preserved : goal.loop-table-preserved
loop-table-preserved c =
    table_more c.loop-table.ends c.add_rows.new.self c.args.tables.now c.loop-table.table-index c.table-item.result c.table-item.result
    c.loop-table-test.true (sym c.table-item.is) c.loop-table.invariant
    (λ lid. c.in_ok-add_rows.ensures lid ∙ ap (λ (rows : List Row). option_or (end_known c.loop-table.ends lid) (end_of lid rows)) c.as_slice.ensures)
