use Rattle.std.proofs.Common.{sym, ◌∙◌}
use Rattle.dump_file.proofs.GuidLemmas.{guids_more}
use Rattle.dump_file.proofs.table.guids_of.Goals as goal

pub loop-table-preserved : goal.loop-table-preserved
loop-table-preserved c =
    c.in_ok-insert.ensures.keys
    ∙ guids_more c.loop-table.guids.keys c.args.tables.now c.loop-table.table-index c.table-item.result c.table-item.result c.requires c.loop-table-test.true
    (sym c.table-item.is) c.loop-table.invariant
